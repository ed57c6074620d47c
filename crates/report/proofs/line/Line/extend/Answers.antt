-- As many bytes as there is room for stand behind those that were kept. Assumes nothing.
use Rattle.std.proofs.Common.{◌≡◌, List, ℕ, ◌++◌, ◌+◌, ◌-◌, ◌<◌, ◌≤◌, length, take, min, sym, ap, ◌∙◌, arith, length-take-le, take_all}
use Rattle.std.proofs.Math.Decide.{dec_lt}
use Rattle.std.proofs.Math.Seq.{take-append-add}
use Rattle.std.proofs.lemmas.Slice.{take-put_mid, drop-put_mid}
use borrow.Rule.Slice.PartMut.{same_len_mid}
use Rattle.report.specs.Padded.{zeros-more}
use Rattle.report.proofs.line.Line.extend.Goals as goal

-- of m bytes that are asked for those are taken that are there
taken : (bs : List ℕ) (m n : ℕ) → n ≡ min (length bs) m → take m bs ≡ take n bs
taken bs m n e = go (dec_lt m (length bs))
  where
    go : Dec (m < length bs) → take m bs ≡ take n bs
    go (yes h) = ap (λ (j : ℕ). take j bs) (omega (arith, e, h))
    go (no h) = take_all m bs (omega (arith, h)) ∙ sym (take_all n bs (omega (arith, e, h)))

behind : (s bs : List ℕ) (c n : ℕ) → length s ≡ 15 → c ≤ 15 → n ≡ min (length bs) (15 - c) → take 15 (take c s ++ bs) ≡ take c s ++ take n bs
behind s bs c n l h e =
    let own : 15 ≡ length (take c s) + (15 - c) = omega (arith, length-take-le c s (omega arith)) in
    ap (λ (j : ℕ). take j (take c s ++ bs)) own ∙ take-append-add (take c s) bs (15 - c) ∙ ap (λ (ys : List ℕ). take c s ++ ys) (taken bs (15 - c) n e)

pub returns : goal.returns
returns c =
    let s = c.self.inside in
    let n = c.min-n.result in
    let bs = c.args.bytes.now in
    let w = c.copy_from_slice in
    let front : length (take n bs) ≡ n = length-take-le n bs (omega (arith, c.min-n.ensures)) in
    let new : w.new.self ≡ take n bs = w.ensures.after in
    take-put_mid s.count _ s.space w.new.self (s.count + n) (omega (arith, front, ap length new)) (omega (arith, c.self.told, c.self.invariant.few))
    ∙ ap (λ (ys : List ℕ). take s.count s.space ++ ys) new ∙ sym (behind s.space bs s.count n c.self.told c.self.invariant.few c.min-n.ensures)
    ∙ ap (λ (l : List ℕ). take 15 (l ++ bs)) c.self.view_is

pub invariant_of-self : goal.invariant_of-self
invariant_of-self c =
    let s = c.self.inside in
    let p = c.self.invariant in
    let w = c.copy_from_slice in
    let few : s.count + c.min-n.result ≤ 15 = omega (arith, p.few, c.min-n.ensures) in
    let all : length w.new.self ≡ c.min-n.result = ap length w.ensures.after ∙ length-take-le _ c.args.bytes.now (omega (arith, c.min-n.ensures)) in
    record {
      few = few;
      long = same_len_mid s.count _ s.space w.new.self w.ensures.len ∙ p.long;
      zeros = drop-put_mid s.count _ s.space w.new.self _ (omega arith) (omega (arith, p.few, p.long)) (omega (arith, all)) ∙ zeros-more s.count s.space p c.min-n.result few;
    }
