-- `lent` borrows the pass through the handle's pointer, and the handle follows it.
use Prim.Native.Nat.{ℕ}
use mathlib.Core.Path.{◌≡◌, refl}
use Rattle.std.proofs.Common.{true, false, Option, Some, None}
use Rattle.std.specs.Prelude.{IsSome}
use Rattle.std_heap.specs.declared.Global.{Global}
use mathlib.Core.List.{List, [], ◌∷◌}
use seplogic.Ra.Ura.{Ura}
use base.Fraction.{full_share}
use base.Logic.{SProp, ent, sep, via, fst∗}
use base.Fml.{Lft, GName, Share, Fml, ftrue, flft, fsep}
use mir.Raw.{raw as bare}
use mir.Syntax.{named}
use mir.Val.{Val, vptr}
use prog.Memory.{Memory}
use prog.Routine.{Routine}
use prog.Wp.{Env, Calls, Loops, WpFn}
use types.Logic.{Logic, sem}
use contract.Monad.{Fun, fact}
use contract.Running
use types.Kit.{‵, ◌⊛◌, some, at_ret, ◌$◌, ◌∵◌, !, qed, by, move, keep, use1, drop, split}
use types.Kit.{join, pick, fsplit, fsplit3, fjoin, suffices, frame, done, raw, later, await, group, fpack, rewrite}
use types.Part.{whole, sub, look_in}
use types.Run.{stop, fld, load, of_opd, first, blocks, exec, returns, enter, addr}
use types.ByLocal.{alloc_all, pass_all, free_all, look_at, get, through, sets, env, sets_last}
use denote.Exit.{no}
use denote.Follow.{follows, Part, lends_Part}
use denote.Memory.{part_at, mem, cell_at, part_of}
use denote.RattleType.{owns}
use denote.RawPtr.{Ptr, block_ptr}
use denote.Ref.{MutBor, MutRef, mut_vals, mut_Tells}
use denote.Signature.{plain, mut_ref_to}
use denote.Steps.{nothing, opens, heard}
use denote.Triple.Entry.{on_entry}
use denote.Triple.Walked.{says, Stays, stay_dropped, walk_of, ends_at, Goes-spent_ref}
use Rattle.std.proofs.alloc.Calls.{token}
use Rattle.std.proofs.alloc.Shapes.{after}
use Rattle.std.proofs.raw_atomic.Walks.{proved}
use Rattle.std_alloc.proofs.BoxSteps.Form.{τ, word, handle as allocator}
use Rattle.std_alloc.proofs.BoxSteps.Steps.{box_out, box_in}
use Rattle.its_shared.specs.Knowing.{Known}
use Rattle.its_shared.specs.contracts.port.Port.{the_row as port_row}
use Rattle.its_shared.proofs.PassBox.{port_box, holder, box_of}
use Rattle.its_shared.specs.Lending.{holding}
use Rattle.its_shared.specs.declared.pass.Pass.{Pass}
use Rattle.its_shared.specs.contracts.pass.Pass.{the_row as handle_row}
use Rattle.its_shared.specs.contracts.pass.Pass.lent as f
use Rattle.its_shared.specs.contracts.pass.Pass.lent.Key.{name as own_name}
use Rattle.its_shared.proofs.pass.Pass.lent.Statement.{statement}
use Rattle.its_shared.proofs.pass.Pass.lent.Code as code

abbrev stayed : Stays f.ended.signature.params f.ended.kept
stayed = (stay_dropped (mut_ref_to (0 ∷ []) tt (plain (λ _. handle_row))) no, tt)

module _ {U : Type 1} {𝓤 : Ura U} (𝓛 : Logic 𝓤) (memory : Memory → SProp 𝓤) (run : Routine → Fun 𝓤)
    (κ : Lft) (q : Share) (place offset : ℕ) (γ : GName) (at : Ptr) (alloc : Global) where
  open 𝓛 use {H, A}

  -- the reference to the handle, which may have a pass
  abbrev self : Option Known → MutBor Pass
  self m = record { ref_ptr = (place, offset); ghost_name = γ; now = record { at = at; alloc = alloc; known = m } }

  abbrev entry : Option Known → (walk_of 𝓛 f.ended stayed (f.clauses 𝓛 memory run)).Ghost
  entry m = (((κ, tt), (q, tt), tt, (self m, tt), (vptr place offset ∷ [], tt)), tt)

  abbrev Post : Option Known → Val → SProp 𝓤
  Post m = (walk_of 𝓛 f.ended stayed (f.clauses 𝓛 memory run)).post (entry m)

  module _ (b o : ℕ) (hv : Val) (now : Known) where
    abbrev h : Pass
    h = holder at alloc now

    -- all of the handle but the pass
    abbrev rest : Fml
    rest =
        fsep (fsep (token port_box.al alloc (bare (τ port_box)) (block_ptr b o)) (allocator port_box alloc hv))
        (cell_at full_share handle_row.mir (word port_box hv b o ∷ []) place offset)

    -- the pass in any state and the rest make a handle again
    back : at ≡ block_ptr b o → (u : Known)
        → ent 𝓤 (sep 𝓤 (sem 𝓛 ((mem port_row).own_at u b o)) (sem 𝓛 rest)) (sem 𝓛 ((mem handle_row).own_at (holding h u) place offset))
    unfolding part_of
    back in_block u =
        qed 𝓛 (‵ (part_at port_row full_share u b o) ∷ ‵ rest ∷ []) ∵ move ! (1 ∷ []) $ fsplit ! $ fsplit ! $ move ! (3 ∷ []) $
        box_in port_box ! (box_of at alloc u) b o u in_block refl $ move ! (1 ∷ 0 ∷ []) $ fjoin ! $
        fpack ! (List Val) (λ us. fsep (cell_at full_share handle_row.mir us place offset) (handle_row.own_val (holding h u) us))
        (word port_box hv b o ∷ []) $ done !

    exits : (γ' : GName)
        → ent 𝓤 (sep 𝓤 (sem 𝓛 ((MutRef (named 0) κ port_row).own_val (record { ref_ptr = (b, o); ghost_name = γ'; now = now }) (vptr b o ∷ [])))
        (sep 𝓤 (A.lft κ q) (sem 𝓛 (follows handle_row port_row γ γ' (holding h))))) (Post (Some now) (vptr b o))
    exits γ' =
        let loan : MutBor Known = record { ref_ptr = (b, o); ghost_name = γ'; now = now } in
        qed 𝓛 (‵ ((MutRef (named 0) κ port_row).own_val loan (vptr b o ∷ [])) ∷ ‵ (flft κ q) ∷ ‵ (follows handle_row port_row γ γ' (holding h)) ∷ []) ∵
        suffices ! _ (ends_at 𝓛 f.ended stayed (f.clauses 𝓛 memory run) (entry (Some now)) (vptr b o) loan (tt, tt) (tt, tt)) $
        nothing ! $ nothing ! $ fjoin ! $ join ! $ nothing ! $ move ! (2 ∷ 0 ∷ []) $ join ! $ join ! $ frame ! $ says ! refl $ done !

  module _ (C : Calls 𝓤 H) (Λ : Loops 𝓤 H) where
    abbrev lends : Option Known → SProp 𝓤
    lends m = WpFn 𝓤 H C Λ code.function (vptr place offset ∷ []) (Post m)

    abbrev given : Option Known → SProp 𝓤
    given m = on_entry 𝓛 (f.ended).signature (κ, tt) (q, tt) (self m, tt) (vptr place offset ∷ [], tt)

    walk : (u : Known) → ent 𝓤 (given (Some u)) (lends (Some u))
    walk u =
        let h = holder at alloc u in
        qed 𝓛 ((‵ (flft κ q) ⊛ ‵ ftrue) ∷ ‵ (owns (MutRef (named 0) κ handle_row ∷ []) (self (Some u), tt) (vptr place offset ∷ [], tt)) ∷ []) ∵
        enter ! C Λ code.function (vptr place offset ∷ []) _ $
        alloc_all ! (λ l. pass_all ! refl ((tt, tt), tt) $
        let locals : Env 𝓤 H = env code.function.locals l in
        move ! (1 ∷ []) $ fsplit ! $ fsplit3 ! $ drop ! $ move ! (3 ∷ []) $ split ! $ move ! (2 ∷ 3 ∷ 0 ∷ []) $
        opens ! tt handle_row {h = h} place offset (λ vs. move ! (1 ∷ []) $
        box_out port_box ! (box_of at alloc u) vs (λ b o hv in_block is_word fits.
        move ! (1 ∷ 2 ∷ []) $ fjoin ! $ move ! (1 ∷ []) $
        rewrite ! 2 (λ (us : List Val). ‵ (cell_at full_share handle_row.mir us place offset)) is_word refl $
        first ! $ blocks ! $
        sets ! (of_opd ! (load ! (through ! refl (fld ! refl (stop !))) (look_in ! 2 (sub ! 0 refl (whole !))))) refl (tt, tt) $
        sets_last ! (addr ! (through ! refl (stop !))) refl (tt, tt) $
        exec ! C Λ locals (after 1 code.function.body) (at_ret locals (Post (Some u))) $
        sets ! (of_opd ! (get ! refl)) refl (tt, tt) $
        move ! (1 ∷ 2 ∷ []) $ fjoin ! $ move ! (2 ∷ 3 ∷ 4 ∷ 1 ∷ 0 ∷ []) $ group ! 5 $
        let r : SProp 𝓤 = sem 𝓛 (rest b o hv u) in
        let lending : GName → SProp 𝓤 = λ γ'. Part 𝓛 handle_row port_row (holding h) (named 0) κ q place offset b o γ r (back b o hv u in_block) u γ' in
        use1 𝓛 (later (some (λ (γ' : GName). raw (lending γ'))))
        (lends_Part 𝓛 handle_row port_row (holding h) (named 0) κ q place offset b o γ r (back b o hv u in_block)
        (handle_row.coded.code h) (handle_row.coded.code h) u) $
        await ! tt $ pick ! (λ γ'. returns ! (look_at ! 0 refl) $ free_all ! refl $ keep ! (0 ∷ []) $ by ! (exits b o hv u γ')))))

    -- there is a pass
    walk_any : (m : Option Known) → ent 𝓤 (sep 𝓤 (given m) (fact 𝓤 (IsSome m))) (lends m)
    walk_any None =
        let m : Option Known = None in
        qed 𝓛 (raw (given m) ∷ raw (fact 𝓤 (IsSome m)) ∷ []) ∵ move ! (1 ∷ []) $
        heard ! (IsSome m) (λ some. absurd (let wrong : false ≡ true = some in cc))
    walk_any (Some u) = via 𝓤 _ (fst∗ 𝓤 (given (Some u)) (fact 𝓤 (IsSome (Some u)))) (walk u)

pub lent_spec : {U : Type 1} → statement U
lent_spec 𝓤 𝓛 𝓜 𝓡 wired =
    let 𝓣 = contract.Running.tables 𝓤 𝓛.H 𝓜 𝓡 𝓡.env in
    proved 𝓛 f.ended stayed (f.clauses 𝓛 𝓜.mem 𝓡.returns) 𝓜 𝓡 (Goes-spent_ref 𝓛 1 (0 ∷ []) tt (plain (λ _. handle_row)), tt)
    own_name code.function (code.unfolded 𝓤 𝓛.H 𝓜 𝓡 wired)
    (λ κs. (mut_vals, tt)) (λ κs. (mut_Tells (named 0) κs.0 handle_row, tt))
    (λ κs qs bounds a g are. walk_any 𝓛 𝓜.mem 𝓡.returns κs.0 qs.0 a.0.ref_ptr.0 a.0.ref_ptr.1 a.0.ghost_name a.0.now.at a.0.now.alloc 𝓣.C 𝓣.Λ a.0.now.known)
