-- Bytes that are read are the record of what they say.
use Rattle.std.proofs.Common.{◌≡◌, ℕ, ltb, List, [], ◌++◌, length, drop, Ok, sym, ap, ◌∙◌, subst, append_assoc, append-nil}
use Rattle.std.specs.List.{flat_map}
use Rattle.std.proofs.lemmas.List.{drop_all}
use Rattle.std.proofs.lemmas.Bool.{ltb-false}
use Rattle.faults.specs.declared.Fault.TheVariants.{OutsideLimits, BytesLeftOver, TooManyBytes}
use Rattle.numbers.specs.Numbers.{most_bytes, encode, read_at, within, edition, Bytes}
use Rattle.numbers.specs.Lists.{lists, list_bytes}
use Rattle.numbers.proofs.ListsSound.{ok_inj, then_inv, cond_inv, cond_out, number_sound, within_sound, edition_sound, lists_sound}
use Rattle.record.specs.Records.{itself, Said, header, record_of}
use Rattle.record.specs.Reading.{Heading, heading, parse}

glue : (e n k l d : List ℕ) → e ++ (n ++ (k ++ (l ++ d))) ≡ (e ++ (n ++ (k ++ l))) ++ d
glue e n k l d = simp append_assoc

heading_sound : (bs : List ℕ) (bytes : Bytes bs) (h : Heading) → heading bs ≡ Ok h → bs ≡ header h.places h.states h.start ++ drop h.next bs
heading_sound bs bytes h x =
    let a = then_inv (edition bs) _ h x in
    let n = then_inv (within bs a.0 0 768) _ h a.2 in
    let k = then_inv (within bs n.0.next 1 8) _ h n.2 in
    let l = then_inv (read_at bs k.0.next) _ h k.2 in
    let g = cond_inv (ltb l.0.value k.0.value) _ (OutsideLimits k.0.next) h l.2 in
    let same = ok_inj _ h g.1 in
    let P : Heading → Type 0 = λ h. bs ≡ header h.places h.states h.start ++ drop h.next bs in
    subst P same
    (edition_sound bs bytes a.0 a.1
    ∙ ap (λ z. encode 1 ++ z) (within_sound bs bytes a.0 0 768 n.0 n.1
    ∙ ap (λ z. encode n.0.value ++ z) (within_sound bs bytes n.0.next 1 8 k.0 k.1
    ∙ ap (λ z. encode k.0.value ++ z) (number_sound bs bytes k.0.next l.0 l.1)))
    ∙ glue (encode 1) (encode n.0.value) (encode k.0.value) (encode l.0.value) (drop l.0.next bs))

pub sound : (bs : List ℕ) (d : Said) → Bytes bs → parse bs ≡ Ok d → bs ≡ record_of d
sound bs d bytes x =
    let a = cond_out (ltb most_bytes (length bs)) _ TooManyBytes d x in
    let h = then_inv (heading bs) _ d a.1 in
    let v = then_inv (lists itself bs h.0.places h.0.states h.0.next []) _ d h.2 in
    let z = cond_out (ltb v.0.next (length bs)) _ (BytesLeftOver v.0.next) d v.2 in
    let same = ok_inj _ d z.1 in
    let s = lists_sound itself bs bytes h.0.places h.0.states h.0.next [] v.0.got v.0.next v.1 in
    let nil : drop v.0.next bs ≡ [] = drop_all v.0.next bs (ltb-false v.0.next (length bs) z.0) in
    let P : Said → Type 0 = λ d. bs ≡ record_of d in
    subst P same
    (heading_sound bs bytes h.0 h.1
    ∙ ap (λ z. header h.0.places h.0.states h.0.start ++ z) (s.2 ∙ ap (λ z. flat_map list_bytes s.0 ++ z) nil ∙ append-nil (flat_map list_bytes s.0) ∙ ap (flat_map list_bytes) (sym s.1)))
