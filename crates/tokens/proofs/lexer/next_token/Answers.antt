use Rattle.std.proofs.Common.{◌≡◌, ◌∷◌, length, drop, sym, ap, ◌∙◌, arith, length-drop}
use Rattle.std.proofs.lemmas.List.{nil_from_length}
use Rattle.std.proofs.lemmas.Bool.{eqb-true}
use Rattle.tokens.specs.Items.{at, flaw, items, view}
use Rattle.tokens.specs.Lexing.{token}
use Rattle.tokens.proofs.Stream.{items_got, items_bad, items_done, items_nil, shrinks, after_space}
use Rattle.tokens.proofs.lexer.next_token.Goals as goal

pub returns-then-is_empty-clause-items : goal.returns-then-is_empty-clause-items
returns-then-is_empty-clause-items c =
    let s = c.args.text.bytes.now in
    let rest = c.after-rest.result in
    let none : length rest.bytes.now ≡ 0 = eqb-true (length rest.bytes.now) 0 (sym c.if-is_empty.ensures) in
    items_done s c.args.text.place
    (sym (ap (λ x. token x rest.place) (nil_from_length rest.bytes.now none))
    ∙ after_space s rest.bytes.now _ rest.place c.spaces.result c.spaces.ensures.count c.after-rest.ensures.bytes c.after-rest.ensures.place)

pub returns-in-Ok-clause-items : goal.returns-in-Ok-clause-items
returns-in-Ok-clause-items c =
    let s = c.args.text.bytes.now in
    let rest = c.after-rest.result in
    let left = c.after.result in
    let size = c.in-Ok.size in
    ap (λ x. at (view c.in-Ok.token) rest.place ∷ items x left.place) c.after.ensures.bytes
    ∙ ap (λ q. at (view c.in-Ok.token) rest.place ∷ items (drop size rest.bytes.now) q) c.after.ensures.place
    ∙ items_got s c.args.text.place _ _ (drop size rest.bytes.now) _
    (c.in-Ok.ensures.token ∙ after_space s rest.bytes.now _ rest.place c.spaces.result c.spaces.ensures.count c.after-rest.ensures.bytes c.after-rest.ensures.place)

pub returns-in-Ok-clause-shorter : goal.returns-in-Ok-clause-shorter
returns-in-Ok-clause-shorter c =
    let s = c.args.text.bytes.now in
    let rest = c.after-rest.result in
    omega (arith, ap length c.after-rest.ensures.bytes, ap length c.after.ensures.bytes, length-drop c.spaces.result s, shrinks rest.bytes.now rest.place _ _ (drop c.in-Ok.size rest.bytes.now) _ c.in-Ok.ensures.token)

pub returns-in-Err-clause-items : goal.returns-in-Err-clause-items
returns-in-Err-clause-items c =
    let s = c.args.text.bytes.now in
    let rest = c.after-rest.result in
    let left = c.after-in-Err.result in
    let none : length left.bytes.now ≡ 0 = omega (arith, ap length c.after-in-Err.ensures.bytes, length-drop (length rest.bytes.now) rest.bytes.now) in
    ap (λ x. flaw c.in-Err.fault ∷ items x left.place) (nil_from_length left.bytes.now none)
    ∙ ap (λ us. flaw c.in-Err.fault ∷ us) (items_nil left.place)
    ∙ items_bad s c.args.text.place c.in-Err.fault
    (c.in-Err.ensures.token ∙ after_space s rest.bytes.now _ rest.place c.spaces.result c.spaces.ensures.count c.after-rest.ensures.bytes c.after-rest.ensures.place)
