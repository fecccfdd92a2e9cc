-- `is_empty` compares the handle's pointer with null, which it may do: null is null, and a pass's box starts its block.
use Rattle.std.proofs.Common.{◌≡◌, ℕ, true, false, Option, Some, None, List, [], ◌∷◌, refl, sym, ap, ◌∙◌, lit<}
use seplogic.Ra.Ura.{Ura}
use base.Fml.{Fml, ftrue, flft, Lft, Share, GName}
use base.Fraction.{full_share}
use base.Logic.{SProp, ent, guard, guard_i, fst∗, never}
use mir.Raw.{raw as bare}
use mir.Syntax.{named}
use mir.Val.{Val, vptr, vbool}
use prog.Memory.{Memory}
use prog.Routine.{Routine}
use prog.Wp.{WpFn, Calls, Loops}
use contract.Monad.{Fun, fact_use}
use contract.Running.{tables}
use types.Kit.{‵, ◌⊛◌, given, ◌$◌, ◌∵◌, !, qed, done, move, keep, use1, split}
use types.Kit.{join, fsplit, fsplit3, fjoin, fpick, fpack, feq_i, rewrite, learn, suffices, frame, group}
use types.Logic.{Logic, sem}
use types.Part.{whole, sub, look_in}
use types.Run.{enter, of_opd, lit, bin, load, stop, fld, returns}
use types.ByLocal.{alloc_all, pass_all, free_all, look_at, get, through, sets}
use denote.Laws.{shows}
use denote.Memory.{cell_at, lone}
use denote.RawPtr.{Ptr, block_ptr, null_ptr, in_a_block, Testable, tests_null}
use denote.Ref.{MutBor, MutRef, mut_vals, mut_Tells}
use denote.Signature.{plain}
use denote.Steps.{nothing, opens, closes, peeks}
use denote.Triple.Walked.{Stays, walk_of, says, stay_ref, Goes-ref, ends_at}
use Rattle.std.proofs.raw_atomic.Walks.{proved}
use Rattle.std_alloc.specs.Box.Ownership.{box_owns}
use Rattle.std_heap.specs.declared.Global.{Global}
use Rattle.std_heap.specs.contracts.GlobalAllocator.TheImpl.{ghosts}
use Rattle.std_heap.proofs.GlobalToken.{dealloc_token-Testable}
use Rattle.its_shared.specs.Knowing.{Known}
use Rattle.its_shared.specs.contracts.port.Port.{the_row as port_row}
use Rattle.its_shared.specs.declared.pass.Pass.{Pass}
use Rattle.its_shared.specs.contracts.pass.Pass.{the_row as handle_row}
use Rattle.its_shared.proofs.pass.Pass.TheLaws.{lowers}
use Rattle.its_shared.specs.contracts.pass.Pass.is_empty as f
use Rattle.its_shared.specs.contracts.pass.Pass.is_empty.Key.{name as own_name}
use Rattle.its_shared.proofs.pass.Pass.is_empty.Statement.{statement}
use Rattle.its_shared.proofs.pass.Pass.is_empty.Code as code

abbrev stayed : Stays f.ended.signature.params f.ended.kept
stayed = (stay_ref (0 ∷ []) tt (plain (λ _. handle_row)), tt)

module _ {U : Type 1} {𝓤 : Ura U} (𝓛 : Logic 𝓤) (memory : Memory → SProp 𝓤) (run : Routine → Fun 𝓤)
    (κ : Lft) (q : Share) (place offset : ℕ) (γ : GName) (at : Ptr) (alloc : Global) where
  open 𝓛 use {H}

  abbrev holder : Option Known → Pass
  holder m = record { at = at; alloc = alloc; known = m }

  abbrev self : Option Known → MutBor Pass
  self m = record { ref_ptr = (place, offset); ghost_name = γ; now = holder m }

  abbrev entry : Option Known → (walk_of 𝓛 f.ended stayed (f.clauses 𝓛 memory run)).Ghost
  entry m = (((κ, tt), (q, tt), tt, (self m, tt), (vptr place offset ∷ [], tt)), tt)

  -- the right to free a block, from which its pointer may be compared
  abbrev token : Ptr → Fml
  token p = ghosts.dealloc_token alloc (bare (lone port_row.mir)) p

  tested : (p : Ptr) → ent 𝓤 (sem 𝓛 (token p)) (guard 𝓤 (Testable p) (sem 𝓛 (token p)))
  tested p = fact_use 𝓤 (Testable p) (dealloc_token-Testable 𝓛 alloc (bare (lone port_row.mir)) p) (guard_i 𝓤 (Testable p) (sem 𝓛 (token p)))

  module _ (C : Calls 𝓤 H) (Λ : Loops 𝓤 H) where
    abbrev Goes : Option Known → Type 1
    Goes m =
        ent 𝓤 ((walk_of 𝓛 f.ended stayed (f.clauses 𝓛 memory run)).pre (entry m))
        (WpFn 𝓤 H C Λ code.function (vptr place offset ∷ []) ((walk_of 𝓛 f.ended stayed (f.clauses 𝓛 memory run)).post (entry m)))

    walk : (m : Option Known) → Goes m
    walk None =
        let h = holder None in
        qed 𝓛 (((‵ (flft κ q) ⊛ ‵ ftrue) ⊛ ‵ ((MutRef (named 0) κ handle_row).own_val (self None) (vptr place offset ∷ [])) ⊛ ‵ ftrue) ∷ ‵ ftrue ∷ []) ∵
        split ! $ split ! $ move ! (2 ∷ []) $ split ! $ keep ! (0 ∷ 2 ∷ []) $
        enter ! _ _ _ _ _ $ alloc_all ! (λ l. pass_all ! refl ((tt, tt), tt) $
        fsplit3 ! $ move ! (1 ∷ 2 ∷ 3 ∷ []) $ opens ! tt handle_row {h = h} place offset (λ us.
        move ! (1 ∷ []) $ peeks ! handle_row _ (shows 𝓛 handle_row) h us (λ is. fsplit ! $ move ! (1 ∷ []) $
        fpick ! (λ at_null.
        let word = lowers.val_is h us is ∙ ap (λ (p : Ptr). lowers.lowered (record h { at = p }) ∷ []) at_null in
        let Cell = λ (ws : List Val). ‵ (cell_at full_share handle_row.mir ws place offset) in
        rewrite ! 2 Cell word refl $
        sets ! (of_opd ! (load ! (through ! refl (fld ! refl (stop !))) (look_in ! 2 (sub ! 0 refl (whole !))))) refl (tt, record { fits = lit< tt }) $
        sets ! (bin ! (get ! refl) (lit ! tt) tt) refl (tt, tt) $
        rewrite ! 2 Cell (sym word) refl $
        fpack ! (at ≡ null_ptr) (λ _. ftrue) at_null $ move ! (1 ∷ []) $ fjoin ! $ move ! (1 ∷ []) $ closes ! tt handle_row h us place offset $
        returns ! (look_at ! 0 refl) $ free_all ! refl $ move ! (3 ∷ []) $
        suffices ! _ (ends_at 𝓛 f.ended stayed (f.clauses 𝓛 memory run) (entry None) (vbool true) true (h, tt) (tt, tt)) $ says ! (refl, refl) $
        group ! 3 $ nothing ! $ move ! (1 ∷ 0 ∷ []) $ join ! $ nothing ! $ move ! (2 ∷ 0 ∷ []) $ join ! $ frame ! $ frame ! $
        feq_i ! (List Val) (vbool true ∷ []) (vbool true ∷ []) refl $ done !))))
    walk (Some u) =
        let h = holder (Some u) in
        let owned : Ptr → Fml = λ p. box_owns (ghosts.dealloc_token alloc) port_row p u in
        qed 𝓛 (((‵ (flft κ q) ⊛ ‵ ftrue) ⊛ ‵ ((MutRef (named 0) κ handle_row).own_val (self (Some u)) (vptr place offset ∷ [])) ⊛ ‵ ftrue) ∷ ‵ ftrue ∷ []) ∵
        split ! $ split ! $ move ! (2 ∷ []) $ split ! $ keep ! (0 ∷ 2 ∷ []) $
        enter ! _ _ _ _ _ $ alloc_all ! (λ l. pass_all ! refl ((tt, tt), tt) $
        fsplit3 ! $ move ! (1 ∷ 2 ∷ 3 ∷ []) $ opens ! tt handle_row {h = h} place offset (λ us.
        move ! (1 ∷ []) $ peeks ! handle_row _ (shows 𝓛 handle_row) h us (λ is. fsplit ! $ move ! (1 ∷ []) $
        in_a_block ! at owned (fst∗ 𝓤 (never 𝓤) (sem 𝓛 (token null_ptr))) (λ b o in_block.
        fsplit ! $ move ! (1 ∷ []) $ use1 𝓛 (given (Testable (block_ptr b o)) (‵ (token (block_ptr b o)))) (tested (block_ptr b o)) $ learn ! (λ may.
        move ! (1 ∷ []) $ fjoin ! $
        let word = lowers.val_is h us is ∙ ap (λ (p : Ptr). lowers.lowered (record h { at = p }) ∷ []) in_block in
        let Cell = λ (ws : List Val). ‵ (cell_at full_share handle_row.mir ws place offset) in
        rewrite ! 2 Cell word refl $
        sets ! (of_opd ! (load ! (through ! refl (fld ! refl (stop !))) (look_in ! 2 (sub ! 0 refl (whole !))))) refl (tt, tt) $
        sets ! (bin ! (get ! refl) (lit ! tt) (tests_null (block_ptr b o) may)) refl (tt, tt) $
        rewrite ! 2 Cell (sym word) refl $ rewrite ! 0 (λ (p : Ptr). ‵ (owned p)) (sym in_block) refl $
        move ! (1 ∷ []) $ fjoin ! $ move ! (1 ∷ []) $ closes ! tt handle_row h us place offset $
        returns ! (look_at ! 0 refl) $ free_all ! refl $ move ! (3 ∷ []) $
        suffices ! _ (ends_at 𝓛 f.ended stayed (f.clauses 𝓛 memory run) (entry (Some u)) (vbool false) false (h, tt) (tt, tt)) $ says ! (refl, refl) $
        group ! 3 $ nothing ! $ move ! (1 ∷ 0 ∷ []) $ join ! $ nothing ! $ move ! (2 ∷ 0 ∷ []) $ join ! $ frame ! $ frame ! $
        feq_i ! (List Val) (vbool false ∷ []) (vbool false ∷ []) refl $ done !)))))

pub is_empty_spec : {U : Type 1} → statement U
is_empty_spec 𝓤 𝓛 𝓜 𝓡 wired =
    let 𝓣 = tables 𝓤 𝓛.H 𝓜 𝓡 𝓡.env in
    proved 𝓛 f.ended stayed (f.clauses 𝓛 𝓜.mem 𝓡.returns) 𝓜 𝓡 (Goes-ref 𝓛 1 0 tt (plain (λ _. handle_row)), tt)
    own_name code.function (code.unfolded 𝓤 𝓛.H 𝓜 𝓡 wired)
    (λ κs. (mut_vals, tt)) (λ κs. (mut_Tells (named 0) κs.0 handle_row, tt))
    (λ κs qs bounds a g are. walk 𝓛 𝓜.mem 𝓡.returns κs.0 qs.0 a.0.ref_ptr.0 a.0.ref_ptr.1 a.0.ghost_name a.0.now.at a.0.now.alloc 𝓣.C 𝓣.Λ a.0.now.known)
