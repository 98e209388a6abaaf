-- What is known of bytes that were read as a log.
use Rattle.std.proofs.Common.{◌≡◌, ℕ, zero, suc, ◌+◌, ◌-◌, ◌<◌, ◌≤◌, true, ltb, List, [], ◌∷◌, ◌++◌, length, take, is_ok, Ok, Err, Result, sym, refl, ap, ◌∙◌, ⊎_elim, append_assoc, append-nil, arith}
use Rattle.std.proofs.lemmas.List.{length_push, take_at}
use Rattle.std.proofs.lemmas.Bool.{cond-false, and_left, and_right, le-ltb, ltb-false, false≢true}
use Rattle.faults.specs.declared.Fault.{Fault}
use Rattle.numbers.specs.Numbers.{most_bytes}
use Rattle.faults.specs.declared.Fault.TheVariants.{BytesLeftOver, TooManyBytes}
use Rattle.lasso.specs.declared.value.Value.{Value}
use Rattle.lasso.specs.declared.value.Value.TheVariants.{Open}
use Rattle.source.specs.Meanings.{Kept}
use Rattle.numbers.specs.Lists.{Read, read, list, lists}
use Rattle.numbers.proofs.Lists.{lists_got, lists_err}
use Rattle.numbers.proofs.ListsSound.{never, ok_inj, then_inv, cond_out}
use Rattle.logs.specs.declared.log.calls.Header.{Header}
use Rattle.logs.specs.Logs.{place_of, Said, Heading, heading, parse, said_by, said}
use Rattle.logs.specs.Meanings.{latest, latest_of, log_meaning}
use Rattle.logs.specs.Told.{after_marks}
use Rattle.logs.specs.Heads.{heading_as, Headed}
use Rattle.logs.proofs.Scans.{latest_of_push}

pub ok_of : {X : Type 0} (r : Result X Fault) → is_ok r ≡ true → (x : X) × (r ≡ Ok x)
ok_of (Ok x) e = (x, refl)
ok_of (Err f) e = absurd (false≢true e)

-- how bytes were read
pub record Parsed (bs : List ℕ) (d : Said) : Type 0 where
  pub short : length bs ≤ most_bytes
  pub head : Heading
  pub headed : heading bs ≡ Ok head
  pub end : ℕ
  pub runs : lists place_of bs head.places head.instants head.next [] ≡ Ok (read d.marks end)
  pub last : length bs ≤ end
  pub places : head.places ≡ d.places
  pub instants : head.instants ≡ d.instants

pub parse_inv : (bs : List ℕ) (d : Said) → parse bs ≡ Ok d → Parsed bs d
parse_inv bs d x =
    let a = cond_out (ltb most_bytes (length bs)) _ TooManyBytes d x in
    let h = then_inv (heading bs) _ d a.1 in
    let v = then_inv (lists place_of bs h.0.places h.0.instants h.0.next []) _ d h.2 in
    let z = cond_out (ltb v.0.next (length bs)) _ (BytesLeftOver v.0.next) d v.2 in
    let same = ok_inj _ d z.1 in
    record {
      short = ltb-false most_bytes (length bs) a.0;
      head = h.0;
      headed = h.1;
      end = v.0.next;
      runs = v.1 ∙ ap (λ (d : Said). Ok (read d.marks v.0.next)) same;
      last = ltb-false v.0.next (length bs) z.0;
      places = ap (λ (d : Said). d.places) same;
      instants = ap (λ (d : Said). d.instants) same;
    }

pub kept : (d : Said) → d.places ≤ 768 → d.instants ≤ 16 → Kept (log_meaning d)
kept d n k = record {
  few_places = n;
  few_states = omega arith;
  loops = omega arith;
  beyond = λ p s o. ⊎_elim
      (λ h. cond-false _ _ _ (and_left (ltb p d.places) (ltb s d.instants) (le-ltb p d.places h)))
      (λ (h : d.instants + 1 ≤ s). cond-false _ _ _ (and_right (ltb p d.places) (ltb s d.instants) (le-ltb s d.instants (omega arith))))
      o;
}

pub headed : (bs : List ℕ) (h : Header) (next : ℕ) → is_ok (parse bs) ≡ true → heading bs ≡ Ok (heading_as h next) → h.places ≤ 768 → h.instants ≤ 16 → Headed bs h next
headed bs h next ok e n k =
    let d = ok_of (parse bs) ok in
    let p = parse_inv bs d.0 d.1 in
    let s : said bs ≡ d.0 = ap said_by d.1 in
    let g : p.head ≡ heading_as h next = ok_inj p.head (heading_as h next) (sym p.headed ∙ e) in
    let x : h.places ≡ (said bs).places = sym (ap (λ (g : Heading). g.places) g) ∙ p.places ∙ sym (ap (λ (d : Said). d.places) s) in
    let y : h.instants ≡ (said bs).instants = sym (ap (λ (g : Heading). g.instants) g) ∙ p.instants ∙ sym (ap (λ (d : Said). d.instants) s) in
    record {
      places = x;
      instants = y;
      few_places = n;
      few_instants = k;
      end = p.end;
      marks = ap (λ (g : Heading). lists place_of bs g.places g.instants g.next []) (sym g) ∙ p.runs ∙ ap (λ (d : Said). Ok (read d.marks p.end)) (sym s);
      kept = kept (said bs) (omega arith) (omega arith);
    }

-- ---- what the marks of one instant leave
pub after_inv : (p : ℕ) (v : Value) (r : Result (Read (List ℕ)) Fault) (t : Read Value) → after_marks p v r ≡ Ok t → (ms : List ℕ) × (r ≡ Ok (read ms t.next)) × (t.got ≡ latest p v ms)
after_inv p v (Ok x) t e =
    let same = ok_inj (read (latest p v x.got) x.next) t e in
    (x.got, ap (λ (t : Read Value). Ok (read x.got t.next)) same, sym (ap (λ (t : Read Value). t.got) same))
after_inv p v (Err f) t e = absurd (never f t e)

-- ---- the marks of some instants were read, and go on as those of all
pub record Going (bs : List ℕ) (n k left at from : ℕ) : Type 0 where
  pub rows : List (List ℕ)
  pub same : lists place_of bs n left at rows ≡ lists place_of bs n k from []

pub going_on : (bs : List ℕ) (n k left at from : ℕ) (t : Read Value) → 0 < left → Going bs n k left at from → after_marks 0 Open (list place_of bs n at) ≡ Ok t → Going bs n k (left - 1) t.next from
going_on bs n k left at from t h g e =
    let a = after_inv 0 Open (list place_of bs n at) t e in
    record { rows = g.rows ++ a.0 ∷ []; same = sym (lists_got place_of bs n left at g.rows a.0 t.next h a.1) ∙ g.same }

pub going_wrong : (bs : List ℕ) (n k left at from : ℕ) (f : Fault) → 0 < left → Going bs n k left at from → list place_of bs n at ≡ Err f → lists place_of bs n k from [] ≡ Err f
going_wrong bs n k left at from f h g e = sym g.same ∙ lists_err place_of bs n left at g.rows f h e

-- ---- of the marks of all instants, those of the first i are read
pub record Seen (bs : List ℕ) (n left at i : ℕ) (marks : List (List ℕ)) : Type 0 where
  pub end : ℕ
  pub rows : List (List ℕ)
  pub runs : lists place_of bs n left at rows ≡ Ok (read marks end)
  pub count : length rows ≡ i
  pub front : rows ≡ take i marks

-- what is read later stands behind what was read before
behind : (bs : List ℕ) (n k at : ℕ) (rows out : List (List ℕ)) (next : ℕ) → lists place_of bs n k at rows ≡ Ok (read out next) → (rs : List (List ℕ)) × (out ≡ rows ++ rs)
behind bs n zero at rows out next e =
    let p = ok_inj (read rows at) (read out next) e in
    ([], sym (ap (λ (z : Read (List (List ℕ))). z.got) p) ∙ sym (append-nil rows))
behind bs n (suc k) at rows out next e =
    let i = then_inv (list place_of bs n at) _ (read out next) e in
    let h = behind bs n k i.0.next (rows ++ i.0.got ∷ []) out next i.2 in
    (i.0.got ∷ h.0, h.1 ∙ append_assoc rows (i.0.got ∷ []) h.0)

pub seen_list : (bs : List ℕ) (n left at i : ℕ) (marks : List (List ℕ)) → 0 < left → Seen bs n left at i marks → is_ok (list place_of bs n at) ≡ true
seen_list bs n zero at i marks h s = absurd (omega arith)
seen_list bs n (suc k) at i marks h s =
    let x = then_inv (list place_of bs n at) _ (read marks s.end) s.runs in
    ap is_ok x.1

pub seen_more : (bs : List ℕ) (n left at i p : ℕ) (v : Value) (marks : List (List ℕ)) (t : Read Value) → 0 < left → Seen bs n left at i marks → v ≡ latest_of p Open (take i marks)
    → after_marks p v (list place_of bs n at) ≡ Ok t → Seen bs n (left - 1) t.next (i + 1) marks × (t.got ≡ latest_of p Open (take (i + 1) marks))
seen_more bs n left at i p v marks t h s e a =
    let x = after_inv p v (list place_of bs n at) t a in
    let ms = x.0 in
    let runs = sym (lists_got place_of bs n left at s.rows ms t.next h x.1) ∙ s.runs in
    let b = behind bs n (left - 1) t.next (s.rows ++ ms ∷ []) marks s.end runs in
    let len : length (s.rows ++ ms ∷ []) ≡ i + 1 = length_push s.rows ms ∙ ap (λ k. k + 1) s.count in
    let front : s.rows ++ ms ∷ [] ≡ take (i + 1) marks = sym (take_at (s.rows ++ ms ∷ []) b.0 (i + 1) len) ∙ ap (take (i + 1)) (sym b.1) in (
      record { end = s.end; rows = s.rows ++ ms ∷ []; runs = runs; count = len; front = front },
      x.2 ∙ ap (λ w. latest p w ms) (e ∙ ap (latest_of p Open) (sym s.front)) ∙ sym (latest_of_push p Open s.rows ms) ∙ ap (latest_of p Open) front,
    )
