-- A number at fault settles the refusal of a log.
use Rattle.std.proofs.Common.{◌≡◌, ℕ, true, List, Ok, Err, ap, arith}
use Rattle.faults.specs.declared.Fault.{Fault}
use Rattle.numbers.specs.Numbers.{Number, and_then, within, edition, Bytes}
use Rattle.numbers.specs.Settled.{by_number, Settled}
use Rattle.numbers.proofs.Settles.{Fixed, Same, chain, chain_ok, ok_err, within_err, within_ok, edition_err, edition_ok, whole_settles}
use Rattle.numbers.proofs.ListsSound.{ok_inj}
use Rattle.logs.specs.Logs.{place_of, Heading, heading, parse}

module _ (bs : List ℕ) (bytes : Bytes bs) where
  abbrev headed : ℕ → Number → Heading
  headed n k = record { places = n; instants = k.value; next = k.next }

  -- the last number of a header
  instants_err : (n at : ℕ) (x : Fault) → by_number x ≡ true → and_then (within bs at 0 16) (λ k. Ok (headed n k)) ≡ Err x → Fixed (λ b. and_then (within b at 0 16) (λ k. Ok (headed n k))) bs at x
  instants_err n at x b =
      chain (λ b. within b at 0 16) (λ b k. Ok (headed n k)) (λ k. k.next) bs at x (within_err bs bytes at 0 16 x b) (within_ok bs bytes at 0 16) (λ k _ e. absurd (ok_err (headed n k) x e))

  instants_ok : (n at : ℕ) (h : Heading) → and_then (within bs at 0 16) (λ k. Ok (headed n k)) ≡ Ok h → Same (λ b. and_then (within b at 0 16) (λ k. Ok (headed n k))) bs at h.next h
  instants_ok n at h =
      chain_ok (λ b. within b at 0 16) (λ b k. Ok (headed n k)) (λ k. k.next) bs at h h.next (within_ok bs bytes at 0 16) (λ k e.
      let p : k.next ≡ h.next = ap (λ (g : Heading). g.next) (ok_inj (headed n k) h e) in
      record { after = omega arith; alike = λ other m g s. e })

  heading_err : (x : Fault) → by_number x ≡ true → heading bs ≡ Err x → Fixed heading bs 0 x
  heading_err x b =
      chain edition (λ b a. and_then (within b a 0 768) (λ n. and_then (within b n.next 0 16) (λ k. Ok (headed n.value k)))) (λ a. a) bs 0 x
      (edition_err bs bytes x b) (edition_ok bs bytes) (λ a _.
      chain (λ b. within b a 0 768) (λ b n. and_then (within b n.next 0 16) (λ k. Ok (headed n.value k))) (λ n. n.next) bs a x
      (within_err bs bytes a 0 768 x b) (within_ok bs bytes a 0 768) (λ n _. instants_err n.value n.next x b))

  heading_ok : (h : Heading) → heading bs ≡ Ok h → Same heading bs 0 h.next h
  heading_ok h =
      chain_ok edition (λ b a. and_then (within b a 0 768) (λ n. and_then (within b n.next 0 16) (λ k. Ok (headed n.value k)))) (λ a. a) bs 0 h h.next
      (edition_ok bs bytes) (λ a.
      chain_ok (λ b. within b a 0 768) (λ b n. and_then (within b n.next 0 16) (λ k. Ok (headed n.value k))) (λ n. n.next) bs a h h.next
      (within_ok bs bytes a 0 768) (λ n. instants_ok n.value n.next h))

  pub settles : (x : Fault) → parse bs ≡ Err x → Settled parse bs x
  settles = whole_settles heading place_of (λ h. h.places) (λ h. h.instants) (λ h. h.next) (λ h rows. record { places = h.places; instants = h.instants; marks = rows }) bs bytes heading_err heading_ok
