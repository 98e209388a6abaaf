-- What is left of a text's tokens, and how one goes on in it. Assumes nothing.
use Rattle.std.specs.Prelude.{ℕ, ◌+◌, cond, List, length, drop, Ok, Err, Result}
use Rattle.faults.specs.declared.Fault.{Fault}
use Rattle.tokens.specs.declared.mark.Mark.{Mark}
use Rattle.tokens.specs.declared.rest.Rest.{Rest}
use Rattle.tokens.specs.declared.tokens.Tokens.{Tokens}
use Rattle.tokens.specs.Items.{Item, items, ahead, first, place_of, refusal, is_mark}

-- the items that are left, and the length of the text
pub record Cursor : Type 0 where
  pub items : List Item
  pub len : ℕ

-- at the start of a text
unfoldable pub cursor_of : List ℕ → Cursor
cursor_of text = record { items = items text 0; len = length text }

-- the place at which a text ends of which that is left
abbrev pub ends_at : Rest → ℕ
ends_at r = r.place + length r.bytes.now

unfoldable pub cursor : Tokens → Cursor
cursor t = record { items = ahead t; len = ends_at t.rest }

-- the next item; at the end of the text its end
unfoldable pub head : Cursor → Item
head c = first c.len c.items

-- after the next item
unfoldable pub step : Cursor → Cursor
step c = record { items = drop 1 c.items; len = c.len }

-- a mark, at its place, or why what stands there is refused
unfoldable pub expected : Mark → Item → Result ℕ Fault
expected m i = cond (is_mark m i) (Ok (place_of i)) (Err (refusal i))
