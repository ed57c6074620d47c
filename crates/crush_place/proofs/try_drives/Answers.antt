-- `crush_place::try_drives` meets its contract: load's questions, then the day's group and its list or 16. Assumes nothing.
use Rattle.std.proofs.Common.{◌≡◌, List, ℕ, refl, sym, ap, ◌∙◌}
use Rattle.definitions.specs.Calls.{DaemonAnswer, daemon_of}
use Rattle.engine.specs.Rows.{stopped, refused-some}
use Rattle.crush_place.specs.Answers.{drives_answer}
use Rattle.crush_place.specs.Calls.{drives-load, drives-refused, drives-0}
use Rattle.crush_place.proofs.try_drives.Goals as goal

-- the placing is that of the day's group
placing : (f : List ℕ) (g h : ℕ) (out : List ℕ) (a : DaemonAnswer) → g ≡ h → a ≡ daemon_of f g out → a ≡ daemon_of f h out
placing f g h out a p e = e ∙ ap (λ (n : ℕ). daemon_of f n out) p

pub returns-in_err-text : goal.returns-in_err-text
returns-in_err-text c =
    let h = c.in_err-text.ensures in
    stopped _ _ _ _ c.from_residual.result c.from_residual.ensures.1 refl (sym (drives-load _ _ _ _ _ (sym h) (λ e. refused-some _ _ h (h ∙ e))))

pub group_of-group-requires : goal.group_of-group-requires
group_of-group-requires c = rw c.in_ok-text.ensures.1 c.in_ok-text.ensures.0

pub listed-requires : goal.listed-requires
listed-requires c = (rw c.in_ok-text.ensures.1 c.in_ok-text.ensures.0, c.group_of-group.ensures.1)

pub returns-in_err-p : goal.returns-in_err-p
returns-in_err-p c =
    let T = c.in_ok-text.ensures in
    let h = c.in_err-p.ensures in
    let e = placing _ _ _ _ _ (rw T.1 at c.group_of-group.ensures.0) (rw T.1 at h) in
    stopped _ _ _ _ c.from_residual-in_err-p.result c.from_residual-in_err-p.ensures.1 refl
    (sym (drives-refused _ _ _ _ _ e (λ z. refused-some _ _ refl z)))

pub returns : goal.returns
returns c =
    let T = c.in_ok-text.ensures in
    let g = rw T.1 at c.group_of-group.ensures.0 in
    let h = rw T.1 at c.in_ok-p.ensures in
    let e = placing _ _ _ _ _ g h.1 in
    ap (λ (n : ℕ). drives_answer (record { number = 0; group = n; places = c.in_ok-p.p.places; tries = c.in_ok-p.p.tries }) c.listed.new.out) g
    ∙ sym (drives-0 _ _ _ _ _ e h.0)
