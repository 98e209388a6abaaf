-- Laws of numbers: what is written reads back, nothing else reads as that number, and why bytes are no number.
use Rattle.std.proofs.Common.{◌≡◌, ℕ, ◌+◌, ◌-◌, ◌*◌, ◌/◌, ◌%◌, ◌<◌, ◌≤◌, List, [], ◌∷◌, ◌++◌, length, drop, Ok, Err, sym, refl, ap, ◌∙◌, subst, ⊎_elim, append-nil, arith, Result, MatchResult}
use Rattle.std.proofs.lemmas.List.{drop-drop, get_or-drop}
use Rattle.std.proofs.lemmas.Bool.{cases_lt}
use Rattle.std.proofs.lemmas.Bool.Decides.{nat_tests}
use Rattle.std.proofs.lemmas.Result.{MatchResult-at_ok, MatchResult-at_err}
use Rattle.faults.specs.declared.Fault.{Fault}
use Rattle.numbers.specs.Readers.{Answers}
use Rattle.numbers.specs.declared.read.Leading.{Leading}
use Rattle.numbers.specs.declared.read.Unread.TheVariants.{Ended, NotShortest as Longer}
use Rattle.numbers.specs.Numbers.{limit, encode, First, leads, ended, wrong, first, placed, read_at, Bytes, Stands, Mended, Refuses}

-- ---- by the groups that are there
one_group : (a : ℕ) (s : List ℕ) → a < 128 → first (a ∷ s) ≡ leads a 1
one_group a s h = grind (arith, nat_tests)

two_groups : (a b : ℕ) (s : List ℕ) → 128 ≤ a → 0 < b → b < 128 → first (a ∷ b ∷ s) ≡ leads (a - 128 + b * 128) 2
two_groups a b s h h1 h2 = grind (arith, nat_tests)

three_groups : (a b d : ℕ) (s : List ℕ) → 128 ≤ a → 128 ≤ b → 0 < d → d < 128 → first (a ∷ b ∷ d ∷ s) ≡ leads (a - 128 + (b - 128) * 128 + d * 16384) 3
three_groups a b d s h h1 h2 h3 = grind (arith, nat_tests)

ends_in_one : (a : ℕ) → 128 ≤ a → first (a ∷ []) ≡ ended
ends_in_one a h = grind (arith, nat_tests)

ends_in_two : (a b : ℕ) → 128 ≤ a → 128 ≤ b → first (a ∷ b ∷ []) ≡ ended
ends_in_two a b h k = grind (arith, nat_tests)

second_zero : (a b : ℕ) (s : List ℕ) → 128 ≤ a → b < 1 → first (a ∷ b ∷ s) ≡ wrong
second_zero a b s h k = grind (arith, nat_tests)

third_zero : (a b d : ℕ) (s : List ℕ) → 128 ≤ a → 128 ≤ b → d < 1 → first (a ∷ b ∷ d ∷ s) ≡ wrong
third_zero a b d s h k z = grind (arith, nat_tests)

fourth_wanted : (a b d : ℕ) (s : List ℕ) → 128 ≤ a → 128 ≤ b → 128 ≤ d → first (a ∷ b ∷ d ∷ s) ≡ wrong
fourth_wanted a b d s h k z = grind (arith, nat_tests)

encode_one : (n : ℕ) → n < 128 → encode n ≡ n ∷ []
encode_one n h = grind (arith, nat_tests)

encode_two : (n : ℕ) → 128 ≤ n → n < 16384 → encode n ≡ (n % 128 + 128) ∷ (n / 128) ∷ []
encode_two n h h1 = grind (arith, nat_tests)

encode_three : (n : ℕ) → 16384 ≤ n → encode n ≡ (n % 128 + 128) ∷ (n / 128 % 128 + 128) ∷ (n / 16384) ∷ []
encode_three n h = grind (arith, nat_tests)

back_two : (n : ℕ) → 128 ≤ n → n < 16384 → (n % 128 + 128) - 128 + (n / 128) * 128 ≡ n
back_two n h h1 = omega arith

back_three : (n : ℕ) → 16384 ≤ n → n < limit → (n % 128 + 128) - 128 + ((n / 128 % 128 + 128) - 128) * 128 + (n / 16384) * 16384 ≡ n
back_three n h h1 = omega arith

-- ---- what is written reads back, whatever follows
pub round : (n : ℕ) (rest : List ℕ) → n < limit → first (encode n ++ rest) ≡ leads n (length (encode n))
round n rest h =
    ⊎_elim
    (λ lo. rw (encode_one n lo) (one_group n rest lo))
    (λ hi. ⊎_elim
    (λ lo. rw (encode_two n hi lo) (two_groups (n % 128 + 128) (n / 128) rest (omega arith) (omega arith) (omega arith) ∙ ap (λ m. leads m 2) (back_two n hi lo)))
    (λ top. rw (encode_three n top) (three_groups (n % 128 + 128) (n / 128 % 128 + 128) (n / 16384) rest (omega arith) (omega arith) (omega arith) (omega arith) ∙ ap (λ m. leads m 3) (back_three n top h)))
    (cases_lt n 16384))
    (cases_lt n 128)

-- ---- and nothing else reads as that number
abbrev Begins : List ℕ → ℕ → ℕ → Type 0
Begins s n k = (n < limit) × (k ≡ length (encode n)) × (s ≡ encode n ++ drop k s)

same_number : (s : List ℕ) (n k m j : ℕ) → first s ≡ leads n k → first s ≡ leads m j → Begins s m j → Begins s n k
same_number s n k m j p q g =
    let r : ◌≡◌ {A = Leading} (record { value = m; len = j }) (record { value = n; len = k }) = cc in
    let e : m ≡ n = ap (λ v. v.value) r in
    let f : j ≡ k = ap (λ v. v.len) r in
    rw (← e, ← f) g

not_ended : {A : Type 0} (o : First) (n k : ℕ) → o ≡ leads n k → o ≡ ended → A
not_ended o n k p q = let z : ◌≡◌ {A = ℕ} 0 1 = cc in absurd (omega arith)

not_wrong : {A : Type 0} (o : First) (n k : ℕ) → o ≡ leads n k → o ≡ wrong → A
not_wrong o n k p q = let z : ◌≡◌ {A = ℕ} 0 1 = cc in absurd (omega arith)

not_both : {A : Type 0} (o : First) → o ≡ ended → o ≡ wrong → A
not_both o p q = let z : ◌≡◌ {A = ℕ} 0 1 = cc in absurd (omega arith)

begins_one : (a : ℕ) (s : List ℕ) → a < 128 → Begins (a ∷ s) a 1
begins_one a s h = rw (encode_one a h) (omega arith, refl, refl)

begins_two : (a b : ℕ) (s : List ℕ) → 128 ≤ a → a < 256 → 0 < b → b < 128 → Begins (a ∷ b ∷ s) (a - 128 + b * 128) 2
begins_two a b s h h1 h2 h3 =
    let n : ℕ = a - 128 + b * 128 in
    let x : n % 128 + 128 ≡ a = omega arith in
    let y : n / 128 ≡ b = omega arith in
    let e : encode n ≡ a ∷ b ∷ [] = encode_two n (omega arith) (omega arith) ∙ (cc) in
    (omega arith, sym (ap length e), sym (ap (λ z. z ++ s) e))

middle : (b d : ℕ) → 128 ≤ b → b < 256 → (b - 128 + d * 128) % 128 + 128 ≡ b
middle b d h h1 = omega arith

begins_three : (a b d : ℕ) (s : List ℕ) → 128 ≤ a → a < 256 → 128 ≤ b → b < 256 → 0 < d → d < 128 → Begins (a ∷ b ∷ d ∷ s) (a - 128 + (b - 128) * 128 + d * 16384) 3
begins_three a b d s h h1 h2 h3 h4 h5 =
    let n : ℕ = a - 128 + (b - 128) * 128 + d * 16384 in
    let x : n % 128 + 128 ≡ a = omega arith in
    let q : n / 128 ≡ (b - 128) + d * 128 = omega arith in
    let y : n / 128 % 128 + 128 ≡ b = rw q (middle b d h2 h3) in
    let w : n / 16384 ≡ d = omega arith in
    let e : encode n ≡ a ∷ b ∷ d ∷ [] = encode_three n (omega arith) ∙ (cc) in
    (omega arith, sym (ap length e), sym (ap (λ z. z ++ s) e))

begins_past_two : (a b : ℕ) (s : List ℕ) (n k : ℕ) → 128 ≤ a → 128 ≤ b → Bytes (a ∷ b ∷ s) → first (a ∷ b ∷ s) ≡ leads n k → Begins (a ∷ b ∷ s) n k
begins_past_two a b [] n k h h1 bytes e = not_ended _ n k e (ends_in_two a b h h1)
begins_past_two a b (d ∷ s) n k h h1 bytes e =
    ⊎_elim
    (λ z. not_wrong _ n k e (third_zero a b d s h h1 z))
    (λ p. ⊎_elim
    (λ lo. same_number _ n k _ _ e (three_groups a b d s h h1 p lo) (begins_three a b d s h (bytes 0) h1 (bytes 1) p lo))
    (λ hi. not_wrong _ n k e (fourth_wanted a b d s h h1 hi))
    (cases_lt d 128))
    (cases_lt d 1)

begins_past_one : (a : ℕ) (s : List ℕ) (n k : ℕ) → 128 ≤ a → Bytes (a ∷ s) → first (a ∷ s) ≡ leads n k → Begins (a ∷ s) n k
begins_past_one a [] n k h bytes e = not_ended _ n k e (ends_in_one a h)
begins_past_one a (b ∷ s) n k h bytes e =
    ⊎_elim
    (λ z. not_wrong _ n k e (second_zero a b s h z))
    (λ p. ⊎_elim
    (λ lo. same_number _ n k _ _ e (two_groups a b s h p lo) (begins_two a b s h (bytes 0) p lo))
    (λ hi. begins_past_two a b s n k h hi bytes e)
    (cases_lt b 128))
    (cases_lt b 1)

pub unique : (s : List ℕ) (n k : ℕ) → Bytes s → first s ≡ leads n k → Begins s n k
unique [] n k bytes e = not_ended (first []) n k e refl
unique (a ∷ s) n k bytes e =
    ⊎_elim
    (λ lo. same_number _ n k _ _ e (one_group a s lo) (begins_one a s lo))
    (λ hi. begins_past_one a s n k hi bytes e)
    (cases_lt a 128)

-- ---- bytes that end too early are the beginning of a number
Begun : List ℕ → Type 0
Begun s = (n : ℕ) × (more : List ℕ) × (n < limit) × (s ++ more ≡ encode n)

begun : (s : List ℕ) → Bytes s → first s ≡ ended → Begun s
unfolding Begun
begun [] bytes e = (0, 0 ∷ [], omega arith, refl)
begun (a ∷ []) bytes e =
    ⊎_elim
    (λ lo. not_ended _ a 1 (one_group a [] lo) e)
    (λ hi.
    let g = begins_two a 1 [] hi (bytes 0) (omega arith) (omega arith) in
    (a - 128 + 1 * 128, 1 ∷ [], g.0, g.2 ∙ append-nil _))
    (cases_lt a 128)
begun (a ∷ b ∷ []) bytes e =
    ⊎_elim
    (λ lo. not_ended _ a 1 (one_group a (b ∷ []) lo) e)
    (λ hi. ⊎_elim
    (λ z. not_both _ e (second_zero a b [] hi z))
    (λ p. ⊎_elim
    (λ lo. not_ended _ (a - 128 + b * 128) 2 (two_groups a b [] hi p lo) e)
    (λ top.
    let g = begins_three a b 1 [] hi (bytes 0) top (bytes 1) (omega arith) (omega arith) in
    (a - 128 + (b - 128) * 128 + 1 * 16384, 1 ∷ [], g.0, g.2 ∙ append-nil _))
    (cases_lt b 128))
    (cases_lt b 1))
    (cases_lt a 128)
begun (a ∷ b ∷ d ∷ s) bytes e =
    ⊎_elim
    (λ lo. not_ended _ a 1 (one_group a (b ∷ d ∷ s) lo) e)
    (λ hi. ⊎_elim
    (λ z. not_both _ e (second_zero a b (d ∷ s) hi z))
    (λ p. ⊎_elim
    (λ lo. not_ended _ (a - 128 + b * 128) 2 (two_groups a b (d ∷ s) hi p lo) e)
    (λ top. ⊎_elim
    (λ z. not_both _ e (third_zero a b d s hi top z))
    (λ q. ⊎_elim
    (λ lo. not_ended _ (a - 128 + (b - 128) * 128 + d * 16384) 3 (three_groups a b d s hi top q lo) e)
    (λ more. not_both _ e (fourth_wanted a b d s hi top more))
    (cases_lt d 128))
    (cases_lt d 1))
    (cases_lt b 128))
    (cases_lt b 1))
    (cases_lt a 128)

-- ---- and no bytes after them make a number of bytes that are not in shortest form
wrong_stays : (s more : List ℕ) → first s ≡ wrong → first (s ++ more) ≡ wrong
wrong_stays [] more e = not_both _ refl e
wrong_stays (a ∷ []) more e =
    ⊎_elim
    (λ lo. not_wrong _ a 1 (one_group a [] lo) e)
    (λ hi. not_both _ (ends_in_one a hi) e)
    (cases_lt a 128)
wrong_stays (a ∷ b ∷ []) more e =
    ⊎_elim
    (λ lo. not_wrong _ a 1 (one_group a (b ∷ []) lo) e)
    (λ hi. ⊎_elim
    (λ z. second_zero a b more hi z)
    (λ p. ⊎_elim
    (λ lo. not_wrong _ (a - 128 + b * 128) 2 (two_groups a b [] hi p lo) e)
    (λ top. not_both _ (ends_in_two a b hi top) e)
    (cases_lt b 128))
    (cases_lt b 1))
    (cases_lt a 128)
wrong_stays (a ∷ b ∷ d ∷ s) more e =
    ⊎_elim
    (λ lo. not_wrong _ a 1 (one_group a (b ∷ d ∷ s) lo) e)
    (λ hi. ⊎_elim
    (λ z. second_zero a b (d ∷ s ++ more) hi z)
    (λ p. ⊎_elim
    (λ lo. not_wrong _ (a - 128 + b * 128) 2 (two_groups a b (d ∷ s) hi p lo) e)
    (λ top. ⊎_elim
    (λ z. third_zero a b d (s ++ more) hi top z)
    (λ q. ⊎_elim
    (λ lo. not_wrong _ (a - 128 + (b - 128) * 128 + d * 16384) 3 (three_groups a b d s hi top q lo) e)
    (λ up. fourth_wanted a b d (s ++ more) hi top up)
    (cases_lt d 128))
    (cases_lt d 1))
    (cases_lt b 128))
    (cases_lt b 1))
    (cases_lt a 128)

-- ---- the same at a byte
module _ (bs : List ℕ) (at : ℕ) (bytes_on : Bytes (drop at bs)) where
  abbrev s : List ℕ
  s = drop at bs

  stands : (n k : ℕ) → first s ≡ leads n k → Stands bs at n (at + k)
  stands n k e =
      let u = unique s n k bytes_on e in
      record { small = u.0; bytes = u.2 ∙ ap (λ z. encode n ++ z) (drop-drop k at bs); length_is = ap (λ m. at + m) u.1 }

  no_number : ((n k : ℕ) → first s ≡ leads n k → ⊥) → (n next : ℕ) → Stands bs at n next → ⊥
  no_number none n next st = none n (length (encode n)) (ap first st.bytes ∙ round n (drop next bs) st.small)

  mended : first s ≡ ended → Mended bs at
  unfolding Begun
  mended e =
      let b = begun s bytes_on e in
      record { number = b.0; more = b.1; rest = []; small = b.2; bytes = b.3 ∙ sym (append-nil (encode b.0)) }

  not_mended : first s ≡ wrong → Mended bs at → ⊥
  not_mended e m = not_wrong _ m.number (length (encode m.number)) (ap first m.bytes ∙ round m.number m.rest m.small) (wrong_stays s m.more e)

  exact : (o : First) → first s ≡ o → MatchResult (placed at (length bs) o) (λ n. Stands bs at n.value n.next) (λ f. Refuses bs at f)
  exact (Ok v) e = stands v.value v.len e
  exact (Err Ended) e =
      (no_number (λ n k x. not_ended _ n k x e), (λ _. mended e), λ x. absurd (let z : ◌≡◌ {A = ℕ} 0 1 = cc in omega arith))
  exact (Err Longer) e =
      (no_number (λ n k x. not_wrong _ n k x e), (λ x. absurd (let z : ◌≡◌ {A = ℕ} 0 1 = cc in omega arith)), λ _. not_mended e)

  read_exact_on : MatchResult (read_at bs at) (λ n. Stands bs at n.value n.next) (λ f. Refuses bs at f)
  read_exact_on = exact (first s) refl

pub read_exact : (bs : List ℕ) → Bytes bs → (at : ℕ) → MatchResult (read_at bs at) (λ n. Stands bs at n.value n.next) (λ f. Refuses bs at f)
read_exact bs bytes at = read_exact_on bs at (λ i. subst (λ (x : ℕ). x < 256) (sym (get_or-drop at bs i 0)) (bytes (at + i)))

-- the same of what a reader answers, where the bytes from `at` on are bytes
pub answers_exact : (bs : List ℕ) (at : ℕ) (answer : Result ℕ Fault) (next : ℕ) → Bytes (drop at bs) → Answers (read_at bs at) at answer next
    → MatchResult answer (λ n. Stands bs at n next) (λ f. Refuses bs at f)
answers_exact bs at (Ok n) next bytes e = MatchResult-at_ok _ _ (record { value = n; next = next }) e (read_exact_on bs at bytes)
answers_exact bs at (Err f) next bytes e = MatchResult-at_err _ _ f e.0 (read_exact_on bs at bytes)

-- ---- what is written at the start of a buffer reads back
pub reads_back : (n len : ℕ) (new rest : List ℕ) → n < limit → new ≡ encode n ++ rest → len ≡ length (encode n) → read_at new 0 ≡ Ok (record { value = n; next = len })
reads_back n len new rest h e k =
    let z : 0 + length (encode n) ≡ len = omega arith in
    ap (λ b. placed 0 (length new) (first b)) e ∙ ap (placed 0 (length new)) (round n rest h) ∙ ap (λ m. Ok (record { value = n; next = m })) z
