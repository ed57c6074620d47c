-- Change 4: the tree bucket of section 3.4.3 in source document 003. A node is told by its height j, "the leaves being height 0", and its
-- place k among the nodes of that height, from 0.
use Rattle.std.specs.Prelude.{Bool, true, false, cond, List, ℕ, zero, suc, ◌+◌, ◌*◌, ◌/◌, ◌^◌, leb, ltb, eqb, length, get_or, Option, None, Some}
use Rattle.definitions.specs.Hash.{hash4}

-- "Child i, from 0, is the leaf labelled 2 × i + 1"; "a node at height j is labelled by an odd multiple of 2^j .., and its children's labels
-- lie 2^(j−1) to either side": those of node k are nodes 2 k and 2 k + 1 of the height below
abbrev pub label_of : ℕ → ℕ → ℕ
label_of j k = (2 * k + 1) * 2 ^ j

-- the least h, at most i, with n at most 2 ^ h (i where there is none)
unfoldable pub height_to : ℕ → ℕ → ℕ
height_to n zero = 0
height_to n (suc i) = cond (leb n (2 ^ i)) (height_to n i) (suc i)

-- "The root's label is the least power of two that is at least the number of children": node 0 of this height has the label 2 ^ height
unfoldable pub height_of : ℕ → ℕ
height_of n = height_to n n

-- "Missing leaves weigh 0, a node as much as its leaves."
unfoldable pub node_weight : List ℕ → ℕ → ℕ → ℕ
node_weight weights zero k = get_or weights k 0
node_weight weights (suc j) k = node_weight weights j (2 * k) + node_weight weights j (2 * k + 1)

-- group x, r', the bucket's item number, and the children's weights
module _ (seed x r item : ℕ) (weights : List ℕ) where
  -- "At a node, t is the hash of four (x, label, r', bucket item). The walk turns left when floor(t × node weight / 2^32) is less than the
  -- left weight, otherwise right.": node k of height j + 1
  unfoldable pub turns_left : ℕ → ℕ → Bool
  turns_left j k = ltb (hash4 seed x (label_of (suc j) k) r item * node_weight weights (suc j) k / 2 ^ 32) (node_weight weights j (2 * k))

  -- the node of height j to which the walk comes from node k of height j + 1
  unfoldable pub node_below : ℕ → ℕ → ℕ
  node_below j k = cond (turns_left j k) (2 * k) (2 * k + 1)

  -- the leaf to which it comes from node k of height j
  unfoldable pub leaf_from : ℕ → ℕ → ℕ
  leaf_from zero k = k
  leaf_from (suc j) k = leaf_from j (node_below j k)

  -- "A total weight of 0 draws none." The last argument says whether it is 0.
  unfoldable pub tree_by : List ℕ → Bool → Option ℕ
  tree_by items true = None
  tree_by items false = Some (get_or items (leaf_from (height_of (length items)) 0) 0)

  -- "A bucket with one child draws that child, or none at weight 0.": its root is its leaf
  unfoldable pub tree_of : List ℕ → Option ℕ
  tree_of items = tree_by items (eqb (node_weight weights (height_of (length items)) 0) 0)
