-- Document 01, "Table, edits, moves": a place whose entries differ has walks that part with a cause that is traced. Assumes nothing.
use Rattle.std.specs.Prelude.{◌≡◌, true, ◌⊎◌, ℕ, ◌<◌, length, Option}
use Rattle.std.proofs.Common.{sym, ap, ◌∙◌, inl, inr, ⊎_elim, arith}
use Rattle.std.proofs.Math.Decide.{dec_lt}
use Rattle.definitions.specs.declared.Change.{Change}
use Rattle.definitions.specs.Map.{Map}
use Rattle.definitions.specs.Select.{Place}
use Rattle.definitions.specs.Edit.{put}
use Rattle.definitions.specs.Calls.{independent, fits}
use Rattle.laws.specs.Loadable.{Loadable}
use Rattle.tracing.specs.Runs.{working_at, place_at, place-past}
use Rattle.tracing.specs.Edited.{put_count}
use Rattle.tracing.specs.Traced.{Traced}
use Rattle.tracing.specs.Cause.{Caused, caused-differ, cause-is}
use Rattle.tracing.proofs.Traced.{traced}

module _ (m : Map) (c : Option Change) (x : ℕ) where
  -- a place is the same in both runs, entry and walk, or its walks part with a cause that is traced
  pub place-parts : Loadable m → independent m ≡ true → fits m c ≡ true → (k p : ℕ) → p < length (working_at m x k)
      → (place_at m x k p ≡ place_at (put m c) x k p)
      ⊎ ((cause : ℕ) × Traced m c x k p cause × Caused (place_at m x k p).walk (place_at (put m c) x k p).walk cause)
  place-parts L ind f k p l = ⊎_elim (λ e. inl e) (λ q. inr (q.0, q.1, cause-is m c x ind q.1 l)) (traced m c L ind f x k p)

  -- where the entries differ, the walks do
  pub walks-part : Loadable m → independent m ≡ true → fits m c ≡ true → (k p : ℕ) → ((place_at m x k p).entry ≡ (place_at (put m c) x k p).entry → ⊥)
      → (place_at m x k p).walk ≡ (place_at (put m c) x k p).walk → ⊥
  walks-part L ind f k p d e = go (traced m c L ind f x k p) (dec_lt p (length (working_at m x k)))
    where
      go : (place_at m x k p ≡ place_at (put m c) x k p) ⊎ ((cause : ℕ) × Traced m c x k p cause) → Dec (p < length (working_at m x k)) → ⊥
      go (inl q) l = d (ap (λ (a : Place). a.entry) q)
      go (inr (cause, q)) (yes l) = caused-differ (cause-is m c x ind q l) e
      go (inr (cause, q)) (no l) =
          d (ap (λ (a : Place). a.entry) (place-past m x k p (omega arith) ∙ sym (place-past (put m c) x k p (omega (arith, put_count m c ind x k)))))
