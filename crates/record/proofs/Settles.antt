-- A number at fault settles the refusal of a record.
use Rattle.std.proofs.Common.{◌≡◌, ℕ, true, ltb, List, Ok, Err, refl, ap, subst}
use Rattle.faults.specs.declared.Fault.{Fault}
use Rattle.faults.specs.declared.Fault.TheVariants.{OutsideLimits}
use Rattle.numbers.specs.Numbers.{Number, and_then, within, edition, Bytes}
use Rattle.numbers.specs.Settled.{by_number, Settled}
use Rattle.numbers.proofs.Settles.{Fixed, Same, chain, chain_ok, tested_err, tested_ok, within_err, within_ok, edition_err, edition_ok, whole_settles}
use Rattle.record.specs.Records.{itself}
use Rattle.record.specs.Reading.{Heading, loop_start, heading, parse}

module _ (bs : List ℕ) (bytes : Bytes bs) where
  abbrev with_start : ℕ → ℕ → Number → Heading
  with_start n k l = record { places = n; states = k; start = l.value; next = l.next }

  start_err : (n k at : ℕ) (x : Fault) → by_number x ≡ true → loop_start bs n k at ≡ Err x → Fixed (λ b. loop_start b n k at) bs at x
  start_err n k at x b e = tested_err bs bytes (λ l. ltb l.value k) (with_start n k) at (OutsideLimits at) refl x b e

  start_ok : (n k at : ℕ) (h : Heading) → loop_start bs n k at ≡ Ok h → Same (λ b. loop_start b n k at) bs at h.next h
  start_ok n k at h e =
      let t = tested_ok bs bytes (λ l. ltb l.value k) (with_start n k) at (OutsideLimits at) refl h e in
      subst (λ (m : ℕ). Same (λ b. loop_start b n k at) bs at m h) (ap (λ (g : Heading). g.next) t.1) t.2

  heading_err : (x : Fault) → by_number x ≡ true → heading bs ≡ Err x → Fixed heading bs 0 x
  heading_err x b =
      chain edition (λ b a. and_then (within b a 0 768) (λ n. and_then (within b n.next 1 8) (λ k. loop_start b n.value k.value k.next))) (λ a. a) bs 0 x
      (edition_err bs bytes x b) (edition_ok bs bytes) (λ a _.
      chain (λ b. within b a 0 768) (λ b n. and_then (within b n.next 1 8) (λ k. loop_start b n.value k.value k.next)) (λ n. n.next) bs a x
      (within_err bs bytes a 0 768 x b) (within_ok bs bytes a 0 768) (λ n _.
      chain (λ b. within b n.next 1 8) (λ b k. loop_start b n.value k.value k.next) (λ k. k.next) bs n.next x
      (within_err bs bytes n.next 1 8 x b) (within_ok bs bytes n.next 1 8) (λ k _. start_err n.value k.value k.next x b)))

  heading_ok : (h : Heading) → heading bs ≡ Ok h → Same heading bs 0 h.next h
  heading_ok h =
      chain_ok edition (λ b a. and_then (within b a 0 768) (λ n. and_then (within b n.next 1 8) (λ k. loop_start b n.value k.value k.next))) (λ a. a) bs 0 h h.next
      (edition_ok bs bytes) (λ a.
      chain_ok (λ b. within b a 0 768) (λ b n. and_then (within b n.next 1 8) (λ k. loop_start b n.value k.value k.next)) (λ n. n.next) bs a h h.next
      (within_ok bs bytes a 0 768) (λ n.
      chain_ok (λ b. within b n.next 1 8) (λ b k. loop_start b n.value k.value k.next) (λ k. k.next) bs n.next h h.next
      (within_ok bs bytes n.next 1 8) (λ k. start_ok n.value k.value k.next h)))

  pub settles : (x : Fault) → parse bs ≡ Err x → Settled parse bs x
  settles = whole_settles heading itself (λ h. h.places) (λ h. h.states) (λ h. h.next) (λ h rows. record { places = h.places; states = h.states; start = h.start; rows = rows }) bs bytes heading_err heading_ok
