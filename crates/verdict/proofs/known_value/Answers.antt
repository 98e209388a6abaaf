use Rattle.table.specs.Tables.{path_of}
use Rattle.verdict.proofs.Filled.{known_settles}
use Rattle.verdict.proofs.known_value.Goals as goal

pub returns : goal.returns
returns c m copied =
    let fits = c.requires m copied in
    let known = c.known_table.ensures.known m copied fits in
    record {
      fits = fits;
      path = path_of c.known_table.result;
      known = known;
      value = c.evaluate.ensures.value;
      settles = known_settles c.args.problem.now m (path_of c.known_table.result) c.evaluate.result known c.evaluate.ensures.value;
    }
