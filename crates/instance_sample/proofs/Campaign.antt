-- Document 02, change 8, "Back to the map of a campaign": map M, stored under a name, edited, and returned to, is an instance of demand 3; the
-- bytes that it ends with are those that stood at the store. All of it is computed from the definitions.
use mathlib.Core.Path.{◌≡◌, refl, sym, ap, subst, ◌∙◌}
use mathlib.Core.List.{List, [], ◌∷◌, ◌++◌, map}
use Prim.Native.Nat.{ℕ, ◌^◌, ◌*◌, ◌<◌}
use native.Mathlib.Omega.{arith}
use lib.Dec.{lit<}
use lib.ListN.{length, replicate}
use Rattle.definitions.specs.Lists.{over}
use Rattle.definitions.specs.States.{words_of}
use Rattle.definitions.specs.Calls.{FillAnswer, EditAnswer, StoreAnswer, store_of, return_of}
use Rattle.definitions.specs.Open.{computing}
use Rattle.samples.specs.Samples.{M, line}
use denote.Ref.{Bor, MutBor}
use Rattle.history.specs.Calls.{Site, Kept}
use Rattle.demands.proofs.Contracts.{LoadCall, load-answers, load-call-of, EditCall, edits, StoreCall, store-call-of, stores, ReturnCall, return-call-of, returns, AnyCall, call_of}
use Rattle.demands.proofs.Demand3.{Start, CallRun, empty, next, load-emptied, demand-3}
use Rattle.demands.proofs.Instance.{lent_space, Lending, fill_call, edit_call}
use Rattle.instance_sample.proofs.Sample.{lent_table, M-table, M-edit, M', M'-table, M-loads, M-independent, M-fills, M-edited}

-- words for states, as they are lent, and as load leaves them
abbrev words : List ℕ
words = replicate 24586 7

abbrev emptied : List ℕ
emptied = over (words_of []) words

-- one state of one drive: name 5, and drive 0 with weight 1 and acceptance 65,536
abbrev kept5 : List ℕ
kept5 = 1 ∷ 1 ∷ 5 ∷ 0 ∷ 1 ∷ 65536 ∷ replicate 24580 7

stores-5 : store_of M emptied 5 ≡ record { number = 0; states = kept5 }
unfolding computing
stores-5 = refl

-- "130000000001ffff000004", "130000000101ffff000004": the two places that had become holes hold the drive again, with cause 04
abbrev back-moves : List ℕ
back-moves = line 22 0x130000000001ffff000004 ++ line 22 0x130000000101ffff000004

returns-5 : return_of M' M'-table kept5 5 lent_space ≡ record { number = 0; moves = 2; frames = M; table = M-table; space = back-moves }
unfolding computing
returns-5 = refl

abbrev with-states : List ℕ → List ℕ → List ℕ → Site
with-states frames table states = record { frames = frames; table = table; states = states }

M-length : length M ≡ 114
unfolding computing
M-length = refl

pub short : (length M < 2 ^ 64) × (length M * 1 < 2 ^ 63)
short = (omega (arith, M-length), omega (arith, M-length))

pub five : 5 < 2 ^ 16
five = lit< tt

module _ (k : Lending) where
  abbrev lent : ℕ → List ℕ → Bor (List ℕ)
  lent i bytes = record { ref_ptr = k.at i; now = bytes }

  abbrev lent_mut : ℕ → List ℕ → MutBor (List ℕ)
  lent_mut i bytes = record { ref_ptr = k.at i; ghost_name = k.name i; now = bytes }

  -- the calls of M: load, fill, store, edit, return
  abbrev loading : LoadCall
  loading = load-call-of k.load (lent 0 M, (lent_mut 4 words, tt))

  abbrev storing : StoreCall
  storing = store-call-of k.load (lent 0 M, (lent_mut 4 emptied, (5, tt))) (short, (refl, ((refl, five), tt)))

  abbrev editing : EditCall
  editing = edit_call k M M-table M-edit lent_space

  abbrev returning : ReturnCall
  returning = return-call-of k.edit (lent_mut 0 M', (lent_mut 1 M'-table, (lent 4 kept5, (5, (lent_mut 3 lent_space, tt)))))

  start : Start loading (fill_call k M lent_table) (with-states M M-table emptied) lent_table
  start =
      record {
        lent-load = refl;
        loads = load-answers loading ∙ M-loads;
        left-states = load-emptied loading (load-answers loading ∙ M-loads);
        lent-fill = refl;
        lent-table = refl;
        fills = ap (λ (o : FillAnswer). o.number) M-fills;
        left-table = ap (λ (o : FillAnswer). o.table) M-fills;
      }

  abbrev calls : List AnyCall
  calls = stores storing ∷ edits editing ∷ returns returning ∷ []

  run-returned : CallRun (with-states M' M'-table kept5) (returns returning ∷ []) (with-states M M-table kept5)
  run-returned =
      next (returns returning) (refl, refl, refl)
      (subst (λ (o : EditAnswer). CallRun (with-states o.frames o.table kept5) [] (with-states M M-table kept5)) (sym returns-5) empty)

  run-edited : {cs : List AnyCall} {s : Site} → CallRun (with-states M' M'-table kept5) cs s → CallRun (with-states M M-table kept5) (edits editing ∷ cs) s
  run-edited {cs} {s} r =
      next (edits editing) (refl, refl) (subst (λ (o : EditAnswer). CallRun (with-states o.frames o.table kept5) cs s) (sym M-edited) r)

  run-stored : {cs : List AnyCall} {s : Site} → CallRun (with-states M M-table kept5) cs s → CallRun (with-states M M-table emptied) (stores storing ∷ cs) s
  run-stored {cs} {s} r =
      next (stores storing) (refl, refl) (subst (λ (o : StoreAnswer). CallRun (with-states M M-table o.states) cs s) (sym stores-5) r)

  -- DEMAND 3 of the list
  pub campaign : Kept lent_table (with-states M M-table emptied) (map call_of calls) (with-states M M-table kept5)
  campaign =
      demand-3 loading (fill_call k M lent_table) calls (with-states M M-table emptied) lent_table (with-states M M-table kept5) start M-independent
      (run-stored (run-edited run-returned))
