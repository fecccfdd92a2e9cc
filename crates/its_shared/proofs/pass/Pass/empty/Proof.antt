-- `empty` keeps nothing at null.
use mathlib.Core.Path.{◌≡◌, refl, sym, subst}
use mathlib.Core.List.{List, [], ◌∷◌, ◌++◌}
use Rattle.std.proofs.Common.{None}
use seplogic.Ra.Ura.{Ura}
use mir.Val.{Val, vnull}
use base.Logic.{SProp, ent, emp}
use base.Fml.{ftrue, fsep}
use prog.Memory.{Memory}
use prog.Routine.{Routine}
use prog.Wp.{WpFn, Tables}
use types.Logic.{Logic}
use contract.Monad.{Fun}
use contract.Running.{tables, tables_of}
use sound.WpLaws.{WpFn-mono}
use types.Kit.{Item, ‵, raw, ◌⊛◌, ◌$◌, ◌∵◌, !, qed, by, move, drop, join, split, fsplit, fjoin, fpack, feq_i, suffices, done}
use types.Part.{agg}
use types.Run.{no_more, and_then, lit, returns, enter}
use types.ByLocal.{alloc_all, pass_all, free_all, look_at, get, sets}
use denote.Builtin.{RawPtr}
use denote.Exit.{yes}
use denote.RattleType.{Valss}
use denote.RawPtr.{null_ptr}
use denote.Signature.{plain}
use denote.Steps.{nothing}
use denote.Struct.Owning.{shape}
use denote.Struct.Struct.{within}
use denote.Triple.Spec.{triple_of}
use denote.Triple.Table.{entered}
use denote.Triple.Walked.{says, Stays, stay_dropped, walk_of, ends_at, Goes-dropped, walk_Meets}
use Rattle.std.proofs.alloc.Calls.{handle_tells}
use Rattle.std_heap.specs.contracts.Global.{the_row as global_row}
use Rattle.std_alloc.proofs.BoxSteps.Form.{P, owning}
use Rattle.its_shared.proofs.PassBox.{port_box}
use Rattle.its_numbers.proofs.LooseValues.{pair, null_typed}
use Rattle.its_shared.specs.declared.pass.Pass.{Pass}
use Rattle.its_shared.specs.contracts.pass.Pass as handle
use Rattle.its_shared.specs.contracts.pass.Pass.empty as f
use Rattle.its_shared.specs.contracts.pass.Pass.empty.Key.{name as own_name}
use Rattle.its_shared.proofs.pass.Pass.empty.Statement.{statement}
use Rattle.its_shared.proofs.pass.Pass.empty.Code as code

abbrev stayed : Stays f.ended.signature.params f.ended.kept
stayed = (stay_dropped (plain (λ _. global_row)) yes, tt)

module _ {M : Type 1} {𝓤 : Ura M} (𝓛 : Logic 𝓤) (memory : Memory → SProp 𝓤) (run : Routine → Fun 𝓤) (𝓣 : Tables 𝓤 𝓛.H) where
  walk : (z : (walk_of 𝓛 f.ended stayed (f.clauses 𝓛 memory run)).Ghost)
      → ent 𝓤 ((walk_of 𝓛 f.ended stayed (f.clauses 𝓛 memory run)).pre z)
      (WpFn 𝓤 𝓛.H 𝓣.C 𝓣.Λ code.function (z.0.4.0 ++ []) ((walk_of 𝓛 f.ended stayed (f.clauses 𝓛 memory run)).post z))
  walk z =
      let Post = (walk_of 𝓛 f.ended stayed (f.clauses 𝓛 memory run)).post z in
      let a = z.0.3.0 in
      let made : Pass = record { at = null_ptr; alloc = a; known = None } in
      qed 𝓛 ((‵ ftrue ⊛ ‵ (fsep (global_row.own_val a z.0.4.0) ftrue)) ∷ raw (emp 𝓤) ∷ []) ∵ split ! $ drop ! $ fsplit ! $
      handle_tells port_box.al ! a z.0.4.0 (λ h alloc_is fits.
      let w : Val = pair vnull h in
      nothing ! $ move ! (1 ∷ 0 ∷ []) $ fjoin ! $ feq_i ! (List Val) (vnull ∷ []) (vnull ∷ []) refl $ fjoin ! $
      feq_i ! (List Val) (w ∷ []) (w ∷ []) refl $ fjoin ! $
      fpack ! (Valss (RawPtr ∷ P port_box ∷ [])) (within (shape (owning port_box)) (null_ptr, (a, tt)) (w ∷ [])) (vnull ∷ [], (h ∷ [], tt)) $
      nothing ! $ fpack ! (null_ptr ≡ null_ptr) (λ _. ftrue) refl $ move ! (1 ∷ 0 ∷ []) $ fjoin ! $ move ! (1 ∷ 2 ∷ []) $ drop ! $ drop ! $
      let owned : List (Item 𝓤) = ‵ (handle.the_row.own_val made (w ∷ [])) ∷ [] in
      by ! (subst (λ (us : List Val). ent 𝓤 (types.Kit.⋆ 𝓛 owned) (WpFn 𝓤 𝓛.H 𝓣.C 𝓣.Λ code.function (us ++ []) Post)) (sym alloc_is)
      (qed 𝓛 owned ∵ enter ! 𝓣.C 𝓣.Λ code.function (h ∷ []) _ $
      alloc_all ! (λ ls. pass_all ! refl (fits, tt) $
      sets ! (agg ! (and_then ! (lit ! tt) (and_then ! (get ! refl) (no_more !)))) refl (null_typed global_row h fits) $
      returns ! (look_at ! 0 refl) $ free_all ! refl $
      suffices ! _ (ends_at 𝓛 f.ended stayed (f.clauses 𝓛 memory run) z w made (tt, tt) (tt, tt)) $ says ! refl $
      nothing ! $ nothing ! $ fjoin ! $ join ! $ nothing ! $ join ! $ done !))))

pub empty_spec : {M : Type 1} → statement M
unfolding tables_of
empty_spec 𝓤 𝓛 𝓜 𝓡 wired =
    let 𝓣 : Tables 𝓤 𝓛.H = tables_of 𝓤 𝓛.H 𝓜 (tables 𝓤 𝓛.H 𝓜 𝓡 𝓡.env) in
    entered 𝓤 𝓛.H (triple_of 𝓛 f.signature (f.spec 𝓛 𝓜.mem 𝓡.returns)) 𝓣.C 𝓣.Λ own_name code.function (code.unfolded 𝓤 𝓛.H 𝓜 𝓡 wired)
    (walk_Meets 𝓛 f.ended stayed (Goes-dropped 𝓛 0 (plain (λ _. global_row)) yes (λ κs x w. refl), tt) (f.clauses 𝓛 𝓜.mem 𝓡.returns)
    (WpFn 𝓤 𝓛.H 𝓣.C 𝓣.Λ code.function) (WpFn-mono 𝓤 𝓛.H 𝓛.laws 𝓣 code.function)
    (walk 𝓛 𝓜.mem 𝓡.returns 𝓣))
