use Rattle.std.proofs.Common.{ℕ, sym, subst}
use Rattle.evaluate.specs.declared.few.Entry.{Entry}
use Rattle.evaluate.specs.declared.kept.States.{States}
use Rattle.evaluate.specs.Known.{StatesAre}
use Rattle.evaluate.proofs.Puts.{Right, put_right, put_few_right}
use Rattle.evaluate.proofs.evaluator.Evaluator.keep_table.Goals as goal

pub invariant_of-self : goal.invariant_of-self
invariant_of-self c =
    let s = c.args.self.now in
    let g = s.setting in
    record {
      known = subst (Right (StatesAre g.atoms.count g.problem.now g.table.now)) (sym c.put.ensures)
          (put_right (StatesAre g.atoms.count g.problem.now g.table.now) s.tables.items c.args.closed.node c.states_of-states.result s.known c.states_of-states.ensures);
      listed = s.listed;
      kept = s.kept;
    }

pub invariant_of-self-then-is_beside_variable : goal.invariant_of-self-then-is_beside_variable
invariant_of-self-then-is_beside_variable c =
    let s = c.args.self.now in
    let g = s.setting in
    let states = c.states_of-states-then-is_beside_variable in
    record {
      known = s.known;
      listed = put_few_right (λ (m : ℕ) (x : Entry (States 128)). StatesAre g.atoms.count g.problem.now g.table.now x.node x.item) s.large.entries _ (record { node = c.args.closed.node; item = states.result }) s.listed (λ m. states.ensures) c.put-then-is_beside_variable.ensures;
      kept = s.kept;
    }
