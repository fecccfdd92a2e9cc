-- `of_loose` moves both fields, and what the loose box owned goes with them.
use mathlib.Core.Path.{refl, sym, subst}
use Rattle.its_shared.specs.contracts.pass.Pass.{the_row as handle_row}
use mathlib.Core.List.{List, [], ◌∷◌, ◌++◌}
use seplogic.Ra.Ura.{Ura}
use mir.Val.{Val}
use base.Logic.{SProp, ent, emp, id⊢}
use base.Fml.{ftrue, fsep}
use prog.Memory.{Memory}
use prog.Routine.{Routine}
use prog.Wp.{WpFn, Tables}
use types.Logic.{Logic}
use contract.Monad.{Fun}
use contract.Running.{tables, tables_of}
use sound.WpLaws.{WpFn-mono}
use types.Kit.{Item, ‵, raw, ◌⊛◌, ◌$◌, ◌∵◌, !, qed, by, move, drop, use1, join, split, fsplit, fjoin, suffices, done}
use types.Part.{whole, sub, agg}
use types.Run.{stop, fld, no_more, and_then, of_opd, returns, enter}
use types.ByLocal.{alloc_all, pass_all, free_all, look_at, get, get_in, sets}
use denote.Exit.{yes}
use denote.Steps.{nothing}
use denote.Triple.Spec.{triple_of}
use denote.Triple.Table.{entered}
use denote.Triple.Walked.{says, Stays, stay_dropped, walk_of, ends_at, Goes-dropped, walk_Meets}
use Rattle.std_alloc.proofs.BoxSteps.Form.{D, B, word, box_typed}
use Rattle.std_alloc.proofs.BoxSteps.Steps.{box_out, box_in}
use Rattle.its_shared.proofs.PassBox.{port_box, holder, box_of, a_loose}
use Rattle.its_shared.specs.contracts.pass.Pass.of_loose as f
use Rattle.its_shared.specs.contracts.pass.Pass.of_loose.Key.{name as own_name}
use Rattle.its_shared.proofs.pass.Pass.of_loose.Statement.{statement}
use Rattle.its_shared.proofs.pass.Pass.of_loose.Code as code

abbrev stayed : Stays f.ended.signature.params f.ended.kept
stayed = (stay_dropped a_loose yes, tt)

module _ {M : Type 1} {𝓤 : Ura M} (𝓛 : Logic 𝓤) (memory : Memory → SProp 𝓤) (run : Routine → Fun 𝓤) (𝓣 : Tables 𝓤 𝓛.H) where
  abbrev Entry : Type 0
  Entry = (walk_of 𝓛 f.ended stayed (f.clauses 𝓛 memory run)).Ghost

  abbrev Goal : Entry → SProp 𝓤
  Goal z = WpFn 𝓤 𝓛.H 𝓣.C 𝓣.Λ code.function (z.0.4.0 ++ []) ((walk_of 𝓛 f.ended stayed (f.clauses 𝓛 memory run)).post z)

  walk : (z : Entry) → ent 𝓤 ((walk_of 𝓛 f.ended stayed (f.clauses 𝓛 memory run)).pre z) (Goal z)
  walk z =
      let Post = (walk_of 𝓛 f.ended stayed (f.clauses 𝓛 memory run)).post z in
      let v : D port_box = box_of z.0.3.0.at z.0.3.0.alloc z.0.3.0.value in
      let made = holder v.ptr v.alloc v.value in
      qed 𝓛 ((‵ ftrue ⊛ ‵ (fsep ((B port_box).own_val v z.0.4.0) ftrue)) ∷ raw (emp 𝓤) ∷ []) ∵ split ! $ drop ! $ fsplit ! $
      box_out port_box ! v z.0.4.0 (λ b o hv in_block is_word fits.
      box_in port_box ! v b o v.value in_block refl $
      use1 𝓛 (‵ (handle_row.own_val made (word port_box hv b o ∷ []))) (id⊢ 𝓤 _) $ move ! (1 ∷ 2 ∷ []) $ drop ! $ drop ! $
      let w = word port_box hv b o in
      let owned : List (Item 𝓤) = ‵ (handle_row.own_val made (w ∷ [])) ∷ [] in
      by ! (subst (λ (us : List Val). ent 𝓤 (types.Kit.⋆ 𝓛 owned) (WpFn 𝓤 𝓛.H 𝓣.C 𝓣.Λ code.function (us ++ []) Post)) (sym is_word)
      (qed 𝓛 owned ∵ enter ! 𝓣.C 𝓣.Λ code.function (w ∷ []) _ $
      alloc_all ! (λ ls. pass_all ! refl (box_typed port_box hv b o fits, tt) $
      sets ! (of_opd ! (get_in ! (fld ! refl (stop !)) (sub ! 0 refl (whole !)))) refl (tt, tt) $
      sets ! (of_opd ! (get_in ! (fld ! refl (stop !)) (sub ! 1 refl (whole !)))) refl fits $
      sets ! (agg ! (and_then ! (get ! refl) (and_then ! (get ! refl) (no_more !)))) refl (box_typed port_box hv b o fits) $
      returns ! (look_at ! 0 refl) $ free_all ! refl $
      suffices ! _ (ends_at 𝓛 f.ended stayed (f.clauses 𝓛 memory run) z w made (tt, tt) (tt, tt)) $ says ! refl $
      nothing ! $ nothing ! $ fjoin ! $ join ! $ nothing ! $ join ! $ done !))))

pub of_loose_spec : {M : Type 1} → statement M
unfolding tables_of
of_loose_spec 𝓤 𝓛 𝓜 𝓡 wired =
    let 𝓣 : Tables 𝓤 𝓛.H = tables_of 𝓤 𝓛.H 𝓜 (tables 𝓤 𝓛.H 𝓜 𝓡 𝓡.env) in
    entered 𝓤 𝓛.H (triple_of 𝓛 f.signature (f.spec 𝓛 𝓜.mem 𝓡.returns)) 𝓣.C 𝓣.Λ own_name code.function (code.unfolded 𝓤 𝓛.H 𝓜 𝓡 wired)
    (walk_Meets 𝓛 f.ended stayed (Goes-dropped 𝓛 0 a_loose yes (λ κs x w. refl), tt) (f.clauses 𝓛 𝓜.mem 𝓡.returns)
    (WpFn 𝓤 𝓛.H 𝓣.C 𝓣.Λ code.function) (WpFn-mono 𝓤 𝓛.H 𝓛.laws 𝓣 code.function)
    (walk 𝓛 𝓜.mem 𝓡.returns 𝓣))
