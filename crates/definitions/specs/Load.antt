-- Document 01, "Questions at the door", load: questions 1 to 13, and of document 02 22 behind 9, 21 behind 11 and 23 behind 12, one definition
-- each. 1 is put to the bytes, 2 to their lines, 3 and 4 to the frames on these, and the others to the map that the frames hold.
use Rattle.std.specs.Prelude.{Bool, true, false, cond, ◌&&◌, ◌||◌, List, [], ◌∷◌, ◌++◌, map, ℕ, zero, suc, ◌+◌, leb, ltb, eqb, length, get_or}
use Rattle.definitions.specs.declared.Device.{Device}
use Rattle.definitions.specs.declared.Bucket.{Bucket}
use Rattle.definitions.specs.declared.Link.{Link}
use Rattle.definitions.specs.declared.Step.{Step}
use Rattle.definitions.specs.declared.Mode.{Mode}
use Rattle.definitions.specs.declared.Mode.TheVariants.{FirstN, Independent, Through}
use Rattle.definitions.specs.declared.Action.{Action}
use Rattle.definitions.specs.declared.Action.TheVariants.{Take, Select, Emit, Idle}
use Rattle.definitions.specs.declared.Standing.{Standing}
use Rattle.definitions.specs.declared.Standing.TheVariants.{Outside, Inside, Broken}
use Rattle.definitions.specs.Lists.{every, some_of, linked_from, linked, sum, distinct, last_of, first_no}
use Rattle.definitions.specs.Map.{Map, map_of, bucket_item, is_bucket, bucket_number, actions_of}
use Rattle.definitions.specs.View.{children_of, bucket_type, type_of, weight_of}
use Rattle.definitions.specs.Frames.{Frame, is_digit, kind_of, line_length, lines_of, frames_in, section, first_field}
use Rattle.definitions.specs.Rule.{widths, width_of}

-- a is from l to h
abbrev pub within : ℕ → ℕ → ℕ → Bool
within l h a = leb l a && leb a h

-- 1. "1 to 65,536 bytes, last byte 10, all others digits or 10?"
abbrev pub allowed : ℕ → Bool
allowed c = is_digit c || eqb c 10

unfoldable pub sized : List ℕ → Bool
sized bs = within 1 65536 (length bs) && eqb (last_of bs) 10 && every allowed bs

-- 2. "Each line of kind 00 to 05, at that length?"
unfoldable pub line_formed : List ℕ → Bool
line_formed line = leb (kind_of line) 5 && eqb (length line) (line_length (kind_of line))

unfoldable pub formed : List ℕ → Bool
formed bs = every line_formed (lines_of bs)

-- 3. "One 00 first, then the 01s, 02s, 03s and 04s in that order (any of these four may be absent), one 05 last?": no kind is below the
-- one before it, there is one 00, and there is one 05
abbrev pub kinds_of : List Frame → List ℕ
kinds_of fs = map (λ (f : Frame). f.kind) fs

abbrev pub sorted : List Frame → Bool
sorted fs = linked_from leb 0 (kinds_of fs)

unfoldable pub ordered : List Frame → Bool
ordered fs = sorted fs && eqb (length (section 0 fs)) 1 && eqb (length (section 5 fs)) 1

-- 4. "The 05 count true?"
unfoldable pub counted : List Frame → Bool
counted fs = eqb (first_field 5 fs + 1) (length fs)

-- 5. "Each field in range (child below 1,024, or 65,536 to 65,791; unused fields zero)?"
unfoldable pub device_ranged : Device → Bool
device_ranged d = leb d.number 1023 && leb d.weight 65535 && leb d.acceptance 65536

unfoldable pub bucket_ranged : Bucket → Bool
bucket_ranged b = leb b.number 255 && within 1 255 b.ty && within 1 2 b.kind

unfoldable pub link_ranged : Link → Bool
link_ranged l = leb l.bucket 255 && (ltb l.child 1024 || within 65536 65791 l.child)

-- "Step 1 take uses the bucket. Step 2 (select first-n) and step 3 (select independent) use n from 1 to 16 and type 0 to 254. Step 4 is
-- emit. Unused fields are zero"; "Question 5 reads step 5 as it reads step 3, type 0 included."
unfoldable pub take_ranged : Step → Bool
take_ranged s = eqb s.step 1 && eqb s.count 0 && eqb s.ty 0 && leb s.bucket 255

unfoldable pub select_ranged : Step → Bool
select_ranged s = (within 2 3 s.step || eqb s.step 5) && within 1 16 s.count && leb s.ty 254 && eqb s.bucket 0

unfoldable pub emit_ranged : Step → Bool
emit_ranged s = eqb s.step 4 && eqb s.count 0 && eqb s.ty 0 && eqb s.bucket 0

unfoldable pub step_ranged : Step → Bool
step_ranged s = take_ranged s || select_ranged s || emit_ranged s

unfoldable pub ranged : Map → Bool
ranged m =
    within 1 65536 m.groups
    && every device_ranged m.devices
    && every bucket_ranged m.buckets
    && every link_ranged m.links
    && every step_ranged m.steps

-- 6. "Devices, buckets, and (bucket, child) pairs strictly rising?"
unfoldable pub link_below : Link → Link → Bool
link_below k l = ltb k.bucket l.bucket || (eqb k.bucket l.bucket && ltb k.child l.child)

unfoldable pub rising : Map → Bool
rising m =
    linked (λ (d e : Device). ltb d.number e.number) m.devices
    && linked (λ (b c : Bucket). ltb b.number c.number) m.buckets
    && linked link_below m.links

-- 7. "Every bucket and child of an 03, and every bucket taken, present?"
unfoldable pub has_device : Map → ℕ → Bool
has_device m d = some_of (λ (e : Device). eqb e.number d) m.devices

unfoldable pub has_bucket : Map → ℕ → Bool
has_bucket m b = some_of (λ (k : Bucket). eqb k.number b) m.buckets

unfoldable pub has_item : Map → ℕ → Bool
has_item m i = cond (is_bucket i) (has_bucket m (bucket_number i)) (has_device m i)

unfoldable pub takes_present : Map → Action → Bool
takes_present m (Take b) = has_bucket m b
takes_present m (Select mode n t) = true
takes_present m Emit = true
takes_present m Idle = true

unfoldable pub present : Map → Bool
present m =
    every (λ (l : Link). has_bucket m l.bucket && has_item m l.child) m.links && every (takes_present m) (actions_of m)

-- 8. "No item a child twice?"
unfoldable pub once : Map → Bool
once m = distinct (map (λ (l : Link). l.child) m.links)

-- 9. "Each child's type below its bucket's?"
unfoldable pub falling : Map → Bool
falling m = every (λ (l : Link). ltb (type_of m l.child) (bucket_type m l.bucket)) m.links

-- 22. "A bucket without children now stops the load. A bucket whose children all weigh 0 is still taken .. . An unfilled bucket answers 22,
-- asked directly after question 9."
unfoldable pub filled : Map → Bool
filled m = every (λ (b : Bucket). ltb 0 (length (children_of m b.number))) m.buckets

-- 10. "At most 64 children?"
unfoldable pub narrow : Map → Bool
narrow m = every (λ (b : Bucket). leb (length (children_of m b.number)) 64) m.buckets

-- 11. "1 to 16 steps, all in blocks of take, selects, emit, types strictly falling from the bucket taken to 0?": where the rule stands
-- after one step more, and after its first k steps. "The step is the last select of its block, so question 11 lets a block end at it": a
-- select through puts out devices, whose type is 0, and no select goes below that.
unfoldable pub reaches : Mode → ℕ → ℕ
reaches FirstN t = t
reaches Independent t = t
reaches Through t = 0

unfoldable pub stand : Map → Standing → Action → Standing
stand m Outside (Take b) = Inside (bucket_type m b)
stand m Outside (Select mode n t) = Broken
stand m Outside Emit = Broken
stand m Outside Idle = Broken
stand m (Inside u) (Take b) = Broken
stand m (Inside u) (Select mode n t) = cond (ltb t u) (Inside (reaches mode t)) Broken
stand m (Inside u) Emit = cond (eqb u 0) Outside Broken
stand m (Inside u) Idle = Broken
stand m Broken a = Broken

unfoldable pub standing : Map → ℕ → Standing
standing m zero = Outside
standing m (suc k) = stand m (standing m k) (get_or (actions_of m) k Idle)

unfoldable pub is_outside : Standing → Bool
is_outside Outside = true
is_outside (Inside u) = false
is_outside Broken = false

unfoldable pub in_blocks : Map → Bool
in_blocks m = within 1 16 (length m.steps) && is_outside (standing m (length m.steps))

-- 21. "Type 0 in a step 5 answers 21, asked right after question 11."
unfoldable pub through_typed : Action → Bool
through_typed (Take b) = true
through_typed (Select FirstN n t) = true
through_typed (Select Independent n t) = true
through_typed (Select Through n t) = ltb 0 t
through_typed Emit = true
through_typed Idle = true

unfoldable pub typed : Map → Bool
typed m = every through_typed (actions_of m)

-- 12. "W at most 16 a block, 32 in all?"
unfoldable pub slim : Map → Bool
slim m = every (λ (w : ℕ). leb w 16) (widths m) && leb (width_of m) 32

-- 23. "A written weight that is not the sum answers 23, asked after question 12.": of any bucket. Question 5 takes all that eight digits can
-- say, so a weight that no sum can have is a 23 too.
unfoldable pub summed : Map → Bool
summed m = every (λ (b : Bucket). eqb b.weight (weight_of m (bucket_item b.number))) m.buckets

-- 13. "Total device weight at most 67,107,840?"
unfoldable pub light : Map → Bool
light m = leb (sum (map (λ (d : Device). d.weight) m.devices)) 67107840

-- the questions that are put to the text, and those that are put to the map that it then holds, each with its number
unfoldable pub text_questions : List ℕ → List (ℕ × Bool)
text_questions bs =
    (1, sized bs)
    ∷ (2, formed bs)
    ∷ (3, ordered (frames_in bs))
    ∷ (4, counted (frames_in bs))
    ∷ []

unfoldable pub map_questions : Map → List (ℕ × Bool)
map_questions m =
    (5, ranged m)
    ∷ (6, rising m)
    ∷ (7, present m)
    ∷ (8, once m)
    ∷ (9, falling m)
    ∷ (22, filled m)
    ∷ (10, narrow m)
    ∷ (11, in_blocks m)
    ∷ (21, typed m)
    ∷ (12, slim m)
    ∷ (23, summed m)
    ∷ (13, light m)
    ∷ []

-- "Each is put to the whole input before the next; "no" ends the call with its number. 0 is done."
unfoldable pub load_number : List ℕ → ℕ
load_number bs = first_no (text_questions bs ++ map_questions (map_of bs))

-- a map that load takes, by its record: each question behind 4 answered yes
unfoldable pub loadable : Map → Bool
loadable m = eqb (first_no (map_questions m)) 0
