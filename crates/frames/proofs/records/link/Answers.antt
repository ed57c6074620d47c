-- `frames::records::link` meets its contract: the two fields stand where they are read, and the line is within the text. Assumes nothing.
use mathlib.Core.Path.{◌≡◌, ◌∙◌}
use Prim.Native.Nat.{ℕ, ◌+◌, ◌*◌}
use native.Mathlib.Omega.{arith}
use Rattle.definitions.specs.declared.Link.{Link}
use Rattle.text.specs.Frames.{line_bytes}
use Rattle.text.specs.Rows.{links_start}
use Rattle.text.specs.Records.{link_at}
use Rattle.frames.specs.Words.{digits_in}
use Rattle.frames.proofs.records.link.Goals as goal

-- two fields are a link
same : (d : Link) (a b : ℕ) → a ≡ d.bucket → b ≡ d.child
    → ◌≡◌ {A = Link} (record { bucket = a; child = b }) d
same d a b p q = rw (p, q)

pub overflow_mul-at : goal.overflow_mul-at
overflow_mul-at c = omega (arith, (link_at c.args.t.now c.requires.0 c.args.s c.requires.1 c.args.k c.requires.2).room, c.well_formed.0)

pub overflow_add-at : goal.overflow_add-at
overflow_add-at c = omega (arith, (link_at c.args.t.now c.requires.0 c.args.s c.requires.1 c.args.k c.requires.2).room, c.well_formed.0)

pub overflow_mul-at-2 : goal.overflow_mul-at-2
overflow_mul-at-2 c = omega (arith, (link_at c.args.t.now c.requires.0 c.args.s c.requires.1 c.args.k c.requires.2).room, c.well_formed.0)

pub overflow_add-at-2 : goal.overflow_add-at-2
overflow_add-at-2 c = omega (arith, (link_at c.args.t.now c.requires.0 c.args.s c.requires.1 c.args.k c.requires.2).room, c.well_formed.0)

pub overflow_mul-at-3 : goal.overflow_mul-at-3
overflow_mul-at-3 c = omega (arith, (link_at c.args.t.now c.requires.0 c.args.s c.requires.1 c.args.k c.requires.2).room, c.well_formed.0)

pub overflow_add-at-3 : goal.overflow_add-at-3
overflow_add-at-3 c = omega (arith, (link_at c.args.t.now c.requires.0 c.args.s c.requires.1 c.args.k c.requires.2).room, c.well_formed.0)

pub overflow_add-at-4 : goal.overflow_add-at-4
overflow_add-at-4 c = omega (arith, (link_at c.args.t.now c.requires.0 c.args.s c.requires.1 c.args.k c.requires.2).room, c.well_formed.0)

pub read_four-requires : goal.read_four-requires
read_four-requires c =
    (omega (arith, (link_at c.args.t.now c.requires.0 c.args.s c.requires.1 c.args.k c.requires.2).room), digits_in c.args.t.now (links_start c.args.s + c.args.k * line_bytes 3) 2 4 _ (link_at c.args.t.now c.requires.0 c.args.s c.requires.1 c.args.k c.requires.2).digits (omega arith))

pub overflow_add-at-5 : goal.overflow_add-at-5
overflow_add-at-5 c = omega (arith, (link_at c.args.t.now c.requires.0 c.args.s c.requires.1 c.args.k c.requires.2).room, c.well_formed.0)

pub read_eight-requires : goal.read_eight-requires
read_eight-requires c =
    (omega (arith, (link_at c.args.t.now c.requires.0 c.args.s c.requires.1 c.args.k c.requires.2).room), digits_in c.args.t.now (links_start c.args.s + c.args.k * line_bytes 3) 6 8 _ (link_at c.args.t.now c.requires.0 c.args.s c.requires.1 c.args.k c.requires.2).digits (omega arith))

pub returns : goal.returns
returns c =
    let h = link_at c.args.t.now c.requires.0 c.args.s c.requires.1 c.args.k c.requires.2 in
    same _ _ _ (c.read_four.ensures ∙ h.bucket) (c.read_eight.ensures ∙ h.child)
