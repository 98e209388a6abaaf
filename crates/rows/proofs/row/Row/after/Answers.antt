use Rattle.std.proofs.Common.{rules}
use Rattle.rows.proofs.row.Row.after.Goals as goal

pub returns : goal.returns
returns c i l = let h = c.filled.ensures i l in search rules
