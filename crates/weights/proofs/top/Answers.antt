-- `weights::top` meets its contract. Assumes nothing.
use Rattle.std.proofs.Common.{◌≡◌, ℕ, ◌<◌, ◌≤◌, ◌∙◌, rules, length, get_or}
use Rattle.std.specs.Option.{MatchOption}
use Rattle.weights.specs.Weights.{greatest-is}
use Rattle.weights.proofs.top.Goals as goal

pub returns : goal.returns
returns c =
    let ts = c.args.types.now in
    let most : MatchOption c.max.result (length ts ≡ 0)
    (λ m. ((k : ℕ) × (k < length ts) × (get_or ts k 0 ≡ m)) × ((k : ℕ) → k < length ts → get_or ts k 0 ≤ m)) = search rules in
    c.unwrap_or.ensures ∙ greatest-is ts c.max.result most
