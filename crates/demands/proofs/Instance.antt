-- Instances of demand 3 and of change 7: the calls that are lent given bytes, one after the other, with the answers that the definitions give.
use mathlib.Core.Path.{◌≡◌, refl, sym, ap, subst, ◌∙◌}
use mathlib.Core.List.{List, [], ◌∷◌}
use Prim.Native.Nat.{ℕ}
use contract.Lifetimes.{Lfts}
use denote.Ref.{Bor, MutBor}
use lib.ListN.{replicate}
use Rattle.definitions.specs.declared.Move.{Move}
use Rattle.definitions.specs.Lists.{over}
use Rattle.definitions.specs.Load.{load_number}
use Rattle.definitions.specs.States.{words_of}
use Rattle.definitions.specs.Calls.{FillAnswer, EditAnswer, fill_of, edit_of}
use Rattle.history.specs.Calls.{Site, Call, editing, Answered, Each, and}
use Rattle.demands.proofs.Contracts.{LoadCall, load-answers, load-call-of, FillCall, fill-call-of, EditCall, edits, AnyCall, edit-call-of, CeilingCall, ceiling-call-of}
use Rattle.demands.proofs.Demand3.{Start, CallRun, next, load-emptied}

-- words for states, as they are lent
abbrev pub lent_states : List ℕ
lent_states = replicate 24586 7

-- frames, a table, and no state
abbrev pub site : List ℕ → List ℕ → Site
site frames table = record { frames = frames; table = table; states = over (words_of []) lent_states }

-- a table of three places, as it is lent
abbrev pub lent_table : List ℕ
lent_table = 7 ∷ 7 ∷ 7 ∷ []

-- a space of two moves, as it is lent
abbrev pub lent_space : List ℕ
lent_space = replicate 46 7

-- a move of group 0: place, old, new, cause
abbrev pub move : ℕ → ℕ → ℕ → ℕ → Move
move p a b cause = record { group = 0; place = p; old = a; new = b; cause = cause }

-- what is lent has a place and a name of its own, whichever: 0 is the map, 1 the table, 2 the edit frame, 3 the space, 4 the states
pub record Lending : Type 0 where
  pub load : Lfts 2
  pub fill : Lfts 2
  pub edit : Lfts 4
  pub ceiling : Lfts 2
  pub at : ℕ → ℕ × ℕ
  pub name : ℕ → ℕ

module _ (k : Lending) where
  abbrev lent : ℕ → List ℕ → Bor (List ℕ)
  lent i bytes = record { ref_ptr = k.at i; now = bytes }

  -- the same, to be written: only then has it a name
  abbrev lent_mut : ℕ → List ℕ → MutBor (List ℕ)
  lent_mut i bytes = record { ref_ptr = k.at i; ghost_name = k.name i; now = bytes }

  -- the calls that are lent these
  abbrev pub load_call : List ℕ → LoadCall
  load_call frames = load-call-of k.load (lent 0 frames, (lent_mut 4 lent_states, tt))

  abbrev pub fill_call : List ℕ → List ℕ → FillCall
  fill_call frames rest = fill-call-of k.fill (lent 0 frames, (lent_mut 1 rest, tt))

  abbrev pub edit_call : List ℕ → List ℕ → List ℕ → List ℕ → EditCall
  edit_call frames table edit space = edit-call-of k.edit (lent_mut 0 frames, (lent_mut 1 table, (lent 2 edit, (lent_mut 3 space, tt))))

  abbrev pub ceiling_call : List ℕ → List ℕ → ℕ → CeilingCall
  ceiling_call frames table d = ceiling-call-of k.ceiling (lent 0 frames, (lent 1 table, (d, tt)))

  -- load takes the frames, and fill leaves this table
  pub starts : {frames rest table : List ℕ} {places : ℕ} → load_number frames ≡ 0 → fill_of frames rest ≡ record { number = 0; places = places; table = table }
      → Start (load_call frames) (fill_call frames rest) (site frames table) rest
  starts {frames} l f =
      record {
        lent-load = refl;
        loads = load-answers (load_call frames) ∙ l;
        left-states = load-emptied (load_call frames) (load-answers (load_call frames) ∙ l);
        lent-fill = refl;
        lent-table = refl;
        fills = ap (λ (o : FillAnswer). o.number) f;
        left-table = ap (λ (o : FillAnswer). o.table) f;
      }

  -- a call of edit with this answer, and then those that are lent what it leaves
  pub answers : {frames table edit space : List ℕ} {s : Site} {o : EditAnswer} {cs : List AnyCall} → edit_of frames table edit space ≡ o
      → CallRun (site o.frames o.table) cs s → CallRun (site frames table) (edits (edit_call frames table edit space) ∷ cs) s
  answers {frames} {table} {edit} {space} {s} {cs = cs} e r =
      next (edits (edit_call frames table edit space)) (refl, refl) (subst (λ (o : EditAnswer). CallRun (site o.frames o.table) cs s) (sym e) r)

-- what is said of the first call of a list, and of those after it, where this is its answer
pub first : {rest : List ℕ} {s : Site} {c : Call} {cs : List Call} → Each rest s (c ∷ cs) → Answered rest s c
first (and a e) = a

pub after : {rest : List ℕ} {s : Site} {edit space : List ℕ} {a o : EditAnswer} {cs : List Call} → a ≡ o → Each rest s (editing edit space a ∷ cs)
    → Each rest (record { frames = o.frames; table = o.table; states = s.states }) cs
after {rest} {s} {cs = cs} q (and a e) = subst (λ (o : EditAnswer). Each rest (record { frames = o.frames; table = o.table; states = s.states }) cs) q e
