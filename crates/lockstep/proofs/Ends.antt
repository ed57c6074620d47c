-- What `==` says of the ends of two draws and of two tests, in the definitions' words. Assumes nothing.
use Rattle.std.specs.Prelude.{◌≡◌, refl, Option, None, Some, ℕ}
use Rattle.std.proofs.Common.{nat_eq}
use Rattle.std.specs.Option.{option_eq}
use denote.Enum.Bare.{sameb}
use Rattle.definitions.specs.contracts.Verdict.{the_type}
use Rattle.definitions.specs.declared.Verdict.{Verdict}
use Rattle.definitions.specs.declared.Verdict.TheVariants.{Held, Rejected, Passed}
use Rattle.definitions.specs.Edit.{same_drawn, same_verdict, is_held}

pub drawn-equal : (d e : Option ℕ) → option_eq nat_eq d e ≡ same_drawn d e
unfolding same_drawn
drawn-equal (Some i) (Some j) = refl
drawn-equal (Some i) None = refl
drawn-equal None (Some j) = refl
drawn-equal None None = refl

pub verdict-equal : (v w : Verdict) → sameb the_type v w ≡ same_verdict v w
unfolding same_verdict
verdict-equal Held Held = refl
verdict-equal Held Rejected = refl
verdict-equal Held Passed = refl
verdict-equal Rejected Held = refl
verdict-equal Rejected Rejected = refl
verdict-equal Rejected Passed = refl
verdict-equal Passed Held = refl
verdict-equal Passed Rejected = refl
verdict-equal Passed Passed = refl

pub held-equal : (v : Verdict) → sameb the_type v Held ≡ is_held v
unfolding is_held
held-equal Held = refl
held-equal Rejected = refl
held-equal Passed = refl
