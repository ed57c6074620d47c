-- `frames::digits::all_digits` meets its contract. Assumes nothing.
use Rattle.std.proofs.Common.{◌≡◌, true, false, rules}
use Rattle.std.proofs.lemmas.Iterator.{cases_from_all, YieldsList-from_slice}
use Rattle.definitions.specs.Frames.{is_digit}
use Rattle.laws.specs.Chains.{all-every}
use Rattle.frames.proofs.digits.all_digits.Goals as goal

pub returns : goal.returns
returns c =
    all-every is_digit c.args.t.now _ (cases_from_all _ _ _ (λ x. is_digit x ≡ true) (λ x. is_digit x ≡ false) c.all.ensures.ran
    (YieldsList-from_slice c.args.t.now cc) (λ x q k. search rules) (λ x q k. search rules))
