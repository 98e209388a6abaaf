-- What is ahead of a reader, by what it looks at.
use Rattle.std.proofs.Common.{◌≡◌, ℕ, suc, ◌≤◌, List, [], length, drop, Some, None, Option, Result, Ok, unwrap_or, sym, refl, ap, ◌∙◌, arith}
use Rattle.faults.specs.declared.Fault.{Fault}
use Rattle.std.specs.declared.option.Option.TheVariants as option
use Rattle.std.specs.declared.result.Result.TheVariants as result
use Rattle.tokens.specs.declared.token.Spot.{Spot}
use Rattle.tokens.specs.declared.token.Token.TheVariants as token
use Rattle.tokens.specs.declared.tokens.Tokens.{Tokens}
use Rattle.tokens.proofs.Stream.{length_items}
use Rattle.tokens.specs.Items.{Item, items, ahead_of, ahead, left_of, bytes_left, seen, first}
use Rattle.tokens.specs.Cursors.{ends_at, cursor, cursor_of, head, step}

pub cursor_start : (t : Tokens) (text : List ℕ) → ahead t ≡ items text 0 → ends_at t.rest ≡ length text → cursor t ≡ cursor_of text
unfolding cursor cursor_of
cursor_start t text e n = λ j. record { items = e j; len = n j }

-- the items after the one that is looked at
after_next : (n : Option (Result Spot Fault)) (s : Result Spot Fault) → n ≡ Some s → (us : List Item) → us ≡ drop 1 (ahead_of n us)
after_next (option.Some (result.Ok s)) r e us = refl
after_next (option.Some (result.Err f)) r e us = refl
after_next option.None r e us = cc

pub stepped : (t u : Tokens) (s : Result Spot Fault) → t.next ≡ Some s → ahead u ≡ items t.rest.bytes.now t.rest.place → ends_at u.rest ≡ ends_at t.rest → cursor u ≡ step (cursor t)
unfolding cursor step ahead
stepped t u s n e l = λ j. record { items = (e ∙ after_next t.next s n (items t.rest.bytes.now t.rest.place)) j; len = l j }

pub stayed : (t u : Tokens) → t.next ≡ None → u.next ≡ None → ends_at u.rest ≡ ends_at t.rest → cursor u ≡ step (cursor t)
unfolding cursor step ahead
stayed t u n m l = λ j. record { items = (ap (λ x. ahead_of x (items u.rest.bytes.now u.rest.place)) m ∙ sym (ap (λ x. drop 1 (ahead_of x (items t.rest.bytes.now t.rest.place))) n)) j; len = l j }

pub end_of : (t : Tokens) → t.next ≡ None → ahead t ≡ []
unfolding ahead
end_of t e = ap (λ n. ahead_of n (items t.rest.bytes.now t.rest.place)) e

pub left_more : (t : Tokens) (s : Result Spot Fault) → t.next ≡ Some s → bytes_left t ≡ suc (length t.rest.bytes.now)
unfolding bytes_left
left_more t s e = ap (λ n. left_of n (length t.rest.bytes.now)) e

-- the next token, or the end
pub peeked : (t : Tokens) (r : Result Spot Fault) → r ≡ unwrap_or t.next (Ok (record { token = token.End; place = ends_at t.rest })) → seen r ≡ head (cursor t)
unfolding cursor head ahead
peeked t r e = ap seen e ∙ go t.next (items t.rest.bytes.now t.rest.place)
  where
    go : (n : Option (Result Spot Fault)) (us : List Item) → seen (unwrap_or n (Ok (record { token = token.End; place = ends_at t.rest }))) ≡ first (ends_at t.rest) (ahead_of n us)
    go (option.Some (result.Ok s)) us = refl
    go (option.Some (result.Err f)) us = refl
    go option.None us = refl

pub ahead_le_left : (t : Tokens) → length (ahead t) ≤ bytes_left t
unfolding ahead bytes_left
ahead_le_left t = go t.next (items t.rest.bytes.now t.rest.place) (length t.rest.bytes.now) (length_items t.rest.bytes.now t.rest.place)
  where
    go : (n : Option (Result Spot Fault)) (us : List Item) (m : ℕ) → length us ≤ m → length (ahead_of n us) ≤ left_of n m
    go (option.Some (result.Ok s)) us m h = omega arith
    go (option.Some (result.Err f)) us m h = omega arith
    go option.None us m h = omega arith
