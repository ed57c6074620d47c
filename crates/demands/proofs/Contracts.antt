-- A call of load, of fill, of edit, of store, of return, of ceiling and of write: its arguments, its result and its parameters at exit, of which the function's own contract
-- holds. `Pre` and `Post` are the `requires` and the `ensures` of engine's sources, as Rattle reads them, and `met` is the theorem that the
-- function meets them.
use mathlib.Core.Path.{◌≡◌, refl, ap, ◌∙◌}
use mathlib.Core.List.{List}
use Prim.Native.Nat.{ℕ, zero, suc, ◌≤◌}
use native.Mathlib.Omega.{arith}
use contract.Lifetimes.{Lfts}
use borrow.Fn.Kinds.{Dens, GoodsP, ended_of}
use denote.Triple.Clauses.{AtExit}
use Rattle.definitions.specs.Map.{map_of}
use Rattle.definitions.specs.Load.{load_number}
use Rattle.definitions.specs.Calls.{LoadAnswer, FillAnswer, EditAnswer, StoreAnswer, CeilingAnswer, WriteAnswer, load_by, load_of, fill_of, edit_of, store_of, return_of, ceiling_of, write_of}
use Rattle.history.specs.Calls.{Call, editing, storing, returning}
use Rattle.engine.specs.declared.load.Sizes.{Sizes}
use Rattle.engine.specs.declared.fill.Filled.{Filled}
use Rattle.engine.specs.declared.edit.Edited.{Edited}
use Rattle.engine.specs.declared.limit.Limit.{Limit}
use Rattle.engine.specs.declared.write.Written.{Written}
use Rattle.engine.specs.Answers.{load_answer, fill_answer, edit_answer, store_answer, ceiling_answer, write_answer}
use Rattle.engine.proofs.load.load.Reads as load
use Rattle.engine.proofs.load.load.Kinds as load-kinds
use Rattle.engine.proofs.load.load.Statement as load-statement
use Rattle.engine.proofs.load.load.Met as load-met
use Rattle.engine.proofs.fill.fill.Reads as fill
use Rattle.engine.proofs.fill.fill.Kinds as fill-kinds
use Rattle.engine.proofs.fill.fill.Statement as fill-statement
use Rattle.engine.proofs.fill.fill.Met as fill-met
use Rattle.engine.proofs.edit.edit.Reads as edit
use Rattle.engine.proofs.edit.edit.Kinds as edit-kinds
use Rattle.engine.proofs.edit.edit.Statement as edit-statement
use Rattle.engine.proofs.edit.edit.Met as edit-met
use Rattle.engine.proofs.store.store.Reads as store
use Rattle.engine.proofs.store.store.Kinds as store-kinds
use Rattle.engine.proofs.store.store.Statement as store-statement
use Rattle.engine.proofs.store.store.Met as store-met
use Rattle.engine.proofs.back.return_to.Reads as return
use Rattle.engine.proofs.back.return_to.Kinds as return-kinds
use Rattle.engine.proofs.back.return_to.Statement as return-statement
use Rattle.engine.proofs.back.return_to.Met as return-met
use Rattle.engine.proofs.limit.ceiling.Reads as ceiling
use Rattle.engine.proofs.limit.ceiling.Kinds as ceiling-kinds
use Rattle.engine.proofs.limit.ceiling.Statement as ceiling-statement
use Rattle.engine.proofs.limit.ceiling.Met as ceiling-met
use Rattle.engine.proofs.write.write.Reads as write
use Rattle.engine.proofs.write.write.Kinds as write-kinds
use Rattle.engine.proofs.write.write.Statement as write-statement
use Rattle.engine.proofs.write.write.Met as write-met

-- the functions meet their contracts: cited, so that this module falls with them
pub load-meets : {M : Type 1} → load-statement.statement M
load-meets = load-met.met

pub fill_meets : {M : Type 1} → fill-statement.statement M
fill_meets = fill-met.met

pub edit-meets : {M : Type 1} → edit-statement.statement M
edit-meets = edit-met.met

pub store-meets : {M : Type 1} → store-statement.statement M
store-meets = store-met.met

pub return-meets : {M : Type 1} → return-statement.statement M
return-meets = return-met.met

pub ceiling-meets : {M : Type 1} → ceiling-statement.statement M
ceiling-meets = ceiling-met.met

pub write_meets : {M : Type 1} → write-statement.statement M
write_meets = write-met.met

-- ---- load

pub record LoadCall : Type 0 where
  pub κs : Lfts 2
  pub args : Dens κs load-kinds.ps
  pub result : Sizes
  pub exit : AtExit (ended_of 2 load-kinds.ps load-kinds.r) κs
  pub asked : load.Pre κs args
  pub holds : load.Post κs args result exit

-- the frames and the states that it was lent
abbrev pub load_frames : LoadCall → List ℕ
load_frames l = l.args.0.now

abbrev pub load_states : LoadCall → List ℕ
load_states l = l.args.1.0.now

-- what came back
abbrev pub load_answered : LoadCall → LoadAnswer
load_answered l = load_answer l.result l.exit.1.0.now

-- what its contract says: of its number
pub load-answers : (l : LoadCall) → (load_answered l).number ≡ load_number (load_frames l)
unfolding load_of load_by
load-answers l = ap (λ (o : LoadAnswer). o.number) l.holds ∙ go (load_number (load_frames l))
  where
    go : (n : ℕ) → (load_by (map_of (load_frames l)) (load_states l) n).number ≡ n
    go zero = refl
    go (suc n) = refl

-- ---- fill

pub record FillCall : Type 0 where
  pub κs : Lfts 2
  pub args : Dens κs fill-kinds.ps
  pub result : Filled
  pub exit : AtExit (ended_of 2 fill-kinds.ps fill-kinds.r) κs
  pub asked : fill.Pre κs args
  pub holds : fill.Post κs args result exit

-- the frames and the table that it was lent
abbrev pub fill_frames : FillCall → List ℕ
fill_frames f = f.args.0.now

abbrev pub fill_table : FillCall → List ℕ
fill_table f = f.args.1.0.now

-- what came back
abbrev pub fill_answered : FillCall → FillAnswer
fill_answered f = fill_answer f.result f.exit.1.0.now

-- ---- edit

pub record EditCall : Type 0 where
  pub κs : Lfts 4
  pub args : Dens κs edit-kinds.ps
  pub result : Edited
  pub exit : AtExit (ended_of 4 edit-kinds.ps edit-kinds.r) κs
  pub asked : edit.Pre κs args
  pub holds : edit.Post κs args result exit

-- the map's frames, the table, the edit frame and the space for moves that it was lent
abbrev pub edit_frames : EditCall → List ℕ
edit_frames c = c.args.0.now

abbrev pub edit_table : EditCall → List ℕ
edit_table c = c.args.1.0.now

abbrev pub edit_frame : EditCall → List ℕ
edit_frame c = c.args.1.1.0.now

abbrev pub edit_space : EditCall → List ℕ
edit_space c = c.args.1.1.1.0.now

-- what came back
abbrev pub edit_answered : EditCall → EditAnswer
edit_answered c = edit_answer c.result c.exit.0.now c.exit.1.0.now c.exit.1.1.1.0.now

-- ---- store

pub record StoreCall : Type 0 where
  pub κs : Lfts 2
  pub args : Dens κs store-kinds.ps
  -- the arguments are of their types: the name has 16 bits
  pub good : GoodsP κs store-kinds.ps args
  pub result : ℕ
  pub exit : AtExit (ended_of 2 store-kinds.ps store-kinds.r) κs
  pub asked : store.Pre κs args
  pub holds : store.Post κs args result exit

-- the map's frames, the states and the name
abbrev pub store_frames : StoreCall → List ℕ
store_frames c = c.args.0.now

abbrev pub store_states : StoreCall → List ℕ
store_states c = c.args.1.0.now

abbrev pub store_name : StoreCall → ℕ
store_name c = c.args.1.1.0

pub name-most : (c : StoreCall) → store_name c ≤ 65535
name-most c = omega (arith, c.good.1.1.0)

-- what came back
abbrev pub store_answered : StoreCall → StoreAnswer
store_answered c = store_answer c.result c.exit.1.0.now

-- ---- return

pub record ReturnCall : Type 0 where
  pub κs : Lfts 4
  pub args : Dens κs return-kinds.ps
  pub result : Edited
  pub exit : AtExit (ended_of 4 return-kinds.ps return-kinds.r) κs
  pub asked : return.Pre κs args
  pub holds : return.Post κs args result exit

-- the map's frames, the table, the states, the name and the space for moves
abbrev pub return_frames : ReturnCall → List ℕ
return_frames c = c.args.0.now

abbrev pub return_table : ReturnCall → List ℕ
return_table c = c.args.1.0.now

abbrev pub return_states : ReturnCall → List ℕ
return_states c = c.args.1.1.0.now

abbrev pub return_name : ReturnCall → ℕ
return_name c = c.args.1.1.1.0

abbrev pub return_space : ReturnCall → List ℕ
return_space c = c.args.1.1.1.1.0.now

-- what came back
abbrev pub return_answered : ReturnCall → EditAnswer
return_answered c = edit_answer c.result c.exit.0.now c.exit.1.0.now c.exit.1.1.1.1.0.now

-- ---- the calls that demand 3 speaks of

pub data AnyCall : Type 0 where
  edits : EditCall → AnyCall
  stores : StoreCall → AnyCall
  returns : ReturnCall → AnyCall

abbrev pub call_of : AnyCall → Call
call_of (edits c) = editing (edit_frame c) (edit_space c) (edit_answered c)
call_of (stores c) = storing (store_name c) (store_answered c)
call_of (returns c) = returning (return_name c) (return_space c) (return_answered c)

-- ---- ceiling

pub record CeilingCall : Type 0 where
  pub κs : Lfts 2
  pub args : Dens κs ceiling-kinds.ps
  pub result : Limit
  pub exit : AtExit (ended_of 2 ceiling-kinds.ps ceiling-kinds.r) κs
  pub asked : ceiling.Pre κs args
  pub holds : ceiling.Post κs args result exit

-- the map's frames and the table that it was lent, and the device that it was asked about
abbrev pub ceiling_frames : CeilingCall → List ℕ
ceiling_frames k = k.args.0.now

abbrev pub ceiling_table : CeilingCall → List ℕ
ceiling_table k = k.args.1.0.now

abbrev pub ceiling_device : CeilingCall → ℕ
ceiling_device k = k.args.1.1.0

-- what came back
abbrev pub ceiling_answered : CeilingCall → CeilingAnswer
ceiling_answered k = ceiling_answer k.result

-- ---- write

pub record WriteCall : Type 0 where
  pub κs : Lfts 2
  pub args : Dens κs write-kinds.ps
  pub result : Written
  pub exit : AtExit (ended_of 2 write-kinds.ps write-kinds.r) κs
  pub asked : write.Pre κs args
  pub holds : write.Post κs args result exit

-- the map's frames and the space that it was lent
abbrev pub write_frames : WriteCall → List ℕ
write_frames w = w.args.0.now

abbrev pub write_space : WriteCall → List ℕ
write_space w = w.args.1.0.now

-- what came back
abbrev pub write_answered : WriteCall → WriteAnswer
write_answered w = write_answer w.result w.exit.1.0.now

-- ---- every lending is such a call: what the definition says comes back satisfies the contract

abbrev pub load-call-of : (κs : Lfts 2) → Dens κs load-kinds.ps → LoadCall
load-call-of κs a =
    let o = load_of a.0.now a.1.0.now in
    record {
      κs = κs;
      args = a;
      result = record { number = o.number; groups = o.groups; places = o.places };
      exit = (a.0, (record { ref_ptr = a.1.0.ref_ptr; ghost_name = a.1.0.ghost_name; now = o.states }, tt));
      asked = tt;
      holds = refl;
    }

abbrev pub fill-call-of : (κs : Lfts 2) → Dens κs fill-kinds.ps → FillCall
fill-call-of κs a =
    let o = fill_of a.0.now a.1.0.now in
    record {
      κs = κs;
      args = a;
      result = record { number = o.number; places = o.places };
      exit = (a.0, (record { ref_ptr = a.1.0.ref_ptr; ghost_name = a.1.0.ghost_name; now = o.table }, tt));
      asked = tt;
      holds = refl;
    }

abbrev pub edit-call-of : (κs : Lfts 4) → Dens κs edit-kinds.ps → EditCall
edit-call-of κs a =
    let o = edit_of a.0.now a.1.0.now a.1.1.0.now a.1.1.1.0.now in
    record {
      κs = κs;
      args = a;
      result = record { number = o.number; moves = o.moves };
      exit = (
        record { ref_ptr = a.0.ref_ptr; ghost_name = a.0.ghost_name; now = o.frames },
        (
          record { ref_ptr = a.1.0.ref_ptr; ghost_name = a.1.0.ghost_name; now = o.table },
          (a.1.1.0, (record { ref_ptr = a.1.1.1.0.ref_ptr; ghost_name = a.1.1.1.0.ghost_name; now = o.space }, tt)),
        ),
      );
      asked = tt;
      holds = refl;
    }

abbrev pub store-call-of : (κs : Lfts 2) (a : Dens κs store-kinds.ps) → GoodsP κs store-kinds.ps a → StoreCall
store-call-of κs a g =
    let o = store_of a.0.now a.1.0.now a.1.1.0 in
    record {
      κs = κs;
      args = a;
      good = g;
      result = o.number;
      exit = (a.0, (record { ref_ptr = a.1.0.ref_ptr; ghost_name = a.1.0.ghost_name; now = o.states }, (a.1.1.0, tt)));
      asked = tt;
      holds = refl;
    }

abbrev pub return-call-of : (κs : Lfts 4) → Dens κs return-kinds.ps → ReturnCall
return-call-of κs a =
    let o = return_of a.0.now a.1.0.now a.1.1.0.now a.1.1.1.0 a.1.1.1.1.0.now in
    record {
      κs = κs;
      args = a;
      result = record { number = o.number; moves = o.moves };
      exit = (
        record { ref_ptr = a.0.ref_ptr; ghost_name = a.0.ghost_name; now = o.frames },
        (
          record { ref_ptr = a.1.0.ref_ptr; ghost_name = a.1.0.ghost_name; now = o.table },
          (
            a.1.1.0,
            (a.1.1.1.0, (record { ref_ptr = a.1.1.1.1.0.ref_ptr; ghost_name = a.1.1.1.1.0.ghost_name; now = o.space }, tt)),
          ),
        ),
      );
      asked = tt;
      holds = refl;
    }

abbrev pub ceiling-call-of : (κs : Lfts 2) → Dens κs ceiling-kinds.ps → CeilingCall
ceiling-call-of κs a =
    let o = ceiling_of a.0.now a.1.0.now a.1.1.0 in
    record {
      κs = κs;
      args = a;
      result = record { number = o.number; groups = o.groups; moves = o.moves };
      exit = (a.0, (a.1.0, (a.1.1.0, tt)));
      asked = tt;
      holds = refl;
    }

abbrev pub write-call-of : (κs : Lfts 2) → Dens κs write-kinds.ps → WriteCall
write-call-of κs a =
    let o = write_of a.0.now a.1.0.now in
    record {
      κs = κs;
      args = a;
      result = record { number = o.number; bytes = o.bytes };
      exit = (a.0, (record { ref_ptr = a.1.0.ref_ptr; ghost_name = a.1.0.ghost_name; now = o.space }, tt));
      asked = tt;
      holds = refl;
    }
