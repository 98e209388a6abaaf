use Rattle.std.proofs.Common.{◌≡◌, ◌+◌, ◌*◌, ◌^◌, ◌≤◌, drop}
use Rattle.tokens.specs.Lexing.{digits_from}
use Rattle.tokens.proofs.tokens.calls.value.Given as goal

abbrev pub invariant-loop-b : goal.invariant-loop-b
invariant-loop-b l = (l.value + 23 ≤ 23 * 10 ^ l.b-index) × (digits_from l.value (drop l.b-index l.digits) ≡ digits_from 0 l.digits)
