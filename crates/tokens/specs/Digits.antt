-- How many digits a token has, for the length that src/tokens keeps of a number. Assumes nothing.
use Rattle.std.specs.Prelude.{ℕ, length, Option, Result}
use Rattle.tokens.specs.declared.token.Token.{Token}
use Rattle.tokens.specs.declared.token.Token.TheVariants as token
use Rattle.tokens.specs.declared.token.Spot.{Spot}
use Rattle.faults.specs.declared.Fault.{Fault}
use Rattle.std.specs.declared.option.Option.TheVariants as option
use Rattle.std.specs.declared.result.Result.TheVariants as result

abbrev pub digits : Token → ℕ
digits (token.Name s) = 0
digits (token.Word w s) = 0
digits (token.Number s) = length s.now
digits (token.Sign s) = 0
digits token.End = 0

abbrev pub digits_in : Option (Result Spot Fault) → ℕ
digits_in (option.Some (result.Ok s)) = digits s.token
digits_in (option.Some (result.Err f)) = 0
digits_in option.None = 0
