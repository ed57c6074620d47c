-- Document 01, demand 2, over the contracts of load and write: "Load then write gives the bytes; write then load gives the map."
use mathlib.Core.Path.{◌≡◌, refl, sym, ap, ◌∙◌}
use mathlib.Core.List.{List}
use Prim.Native.Nat.{ℕ, ◌<◌, ◌≤◌}
use native.Mathlib.Decide.{ℕ_discrete, dec_lt}
use native.Mathlib.Omega.{arith}
use lib.ListN.{length, take, drop}
use lib.Seq.{take_at}
use Rattle.definitions.specs.Map.{map_of}
use Rattle.definitions.specs.Load.{load_number}
use Rattle.definitions.specs.Calls.{WriteAnswer, write_of}
use Rattle.engine.specs.Calls.{write-14, write-16, write-0}
use Rattle.demands.proofs.Contracts.{LoadCall, load_frames, load_answered, load-answers, WriteCall, write_frames, write_space, write_answered}

-- the bytes that a call of write wrote: as many at the front of its space as it answers
abbrev pub written_bytes : WriteCall → List ℕ
written_bytes w = take (write_answered w).bytes (write_answered w).space

-- what write's contract says
module _ (w : WriteCall) where
  abbrev f : List ℕ
  f = write_frames w

  abbrev s : List ℕ
  s = write_space w

  write-answers : write_answered w ≡ write_of f s
  write-answers = w.holds

  -- frames that load takes, and space for them: it answers 0, and they are what it wrote
  pub roomy : load_number f ≡ 0 → length f ≤ length s → ((write_answered w).number ≡ 0) × (written_bytes w ≡ f)
  roomy e h =
      let q = write-answers ∙ write-0 f s e h in (
        ap (λ (a : WriteAnswer). a.number) q,
        ap (λ (a : WriteAnswer). take a.bytes a.space) q ∙ take_at f (drop (length f) s) (length f) refl,
      )

  -- a write that was not refused: load takes its frames, and they are what it wrote
  written : (write_answered w).number ≡ 0 → (load_number f ≡ 0) × (written_bytes w ≡ f)
  written z = go (ℕ_discrete (load_number f) 0) (dec_lt (length s) (length f))
    where
      go : Dec (load_number f ≡ 0) → Dec (length s < length f) → (load_number f ≡ 0) × (written_bytes w ≡ f)
      go (yes e) (no h) = (e, (roomy e (omega arith)).1)
      go (yes e) (yes h) = absurd (omega (arith, ap (λ (a : WriteAnswer). a.number) (write-answers ∙ write-16 f s e h), z))
      go (no g) d = absurd (omega (arith, ap (λ (a : WriteAnswer). a.number) (write-answers ∙ write-14 f s g), z))

-- LOAD THEN WRITE: load took these frames, and write was lent them, and space for them; it answers 0, and what it wrote are these bytes
pub load-write : (l : LoadCall) (w : WriteCall) → (load_answered l).number ≡ 0 → write_frames w ≡ load_frames l → length (load_frames l) ≤ length (write_space w)
    → ((write_answered w).number ≡ 0) × (written_bytes w ≡ load_frames l)
load-write l w r e h =
    let (z, b) = roomy w (ap load_number e ∙ sym (load-answers l) ∙ r) (omega (arith, ap length e, h)) in
    (z, b ∙ e)

-- WRITE THEN LOAD: write was not refused, and load was lent what it wrote; load takes it, and its map is the one that was written
pub write-load : (w : WriteCall) (l : LoadCall) → (write_answered w).number ≡ 0 → load_frames l ≡ written_bytes w
    → ((load_answered l).number ≡ 0) × (map_of (load_frames l) ≡ map_of (write_frames w))
write-load w l z e =
    let (n, b) = written w z in
    (load-answers l ∙ ap load_number (e ∙ b) ∙ n, ap map_of (e ∙ b))
