-- Two states of a machine that have what is held answer a call alike, and leave it alike.
use Rattle.std.proofs.Common.{◌≡◌, ◌⊎◌, Bool, true, false, List, [], ◌∷◌, ap, sym, ◌∙◌, subst, ⊎_elim}
use Rattle.std.specs.List.{AllByRecursion}
use Rattle.its_types.specs.Lpis.{with_lpi}
use Rattle.its_types.specs.declared.ids.Target.{Target}
use Rattle.its_types.specs.declared.machine.Part.{Part}
use Rattle.its_types.specs.declared.machine.Part.TheVariants as part
use Rattle.its_plain.specs.Answer.{answer, left, signal_left, reply_of}
use Rattle.its_plain.specs.Commands.{lpi_set}
use Rattle.its_plain.specs.Parts.{AgreesOn, IsIn, SamePart, footprint}
use Rattle.its_plain.specs.Plain.{Plain, pending_of, is_on}
use Rattle.its_plain.specs.declared.layout.Layout.{Layout}
use Rattle.its_plain.specs.declared.call.Call.{Call}
use Rattle.its_plain.specs.declared.call.Reply.{Reply}
use Rattle.plain_footprint.proofs.Alike.{agree_set}
use Rattle.plain_footprint.proofs.Decided.{decides}
use Rattle.plain_footprint.proofs.Listed.{in_head}
use Rattle.plain_footprint.proofs.OtherParts.{leaves}
use Rattle.plain_footprint.proofs.SameParts.{same_parts}
use Rattle.plain_footprint.proofs.Stays.{stay, stay_pend}
use Rattle.its_steps.specs.Contents.{Pend, Held, parts_of}
use Rattle.its_steps.specs.Good.{Holds}
use Rattle.its_steps.specs.MayCall.{Covers, IsAnswered, IsHit, met}
use Rattle.its_steps.specs.Parts.{Setup, HasVcpus, Stands}
use Rattle.its_steps.specs.declared.commit.Commit.{Commit}
use Rattle.its_steps.proofs.Assembled.{IsSized, same_back, same_through, in_holds, holds_in, all_in, in_or_not}
use Rattle.its_steps.proofs.Helds.{all_held}
use Rattle.its_steps.proofs.Lists.{all_weaker}
use Rattle.its_steps.proofs.Messages.{is_message}
use Rattle.its_steps.proofs.Owed.{owes_holds}

-- an LPI of a target is pending from then on
abbrev pub sent : Target → Plain → Plain
sent target z = lpi_set target.intid.0 target.vcpu.0 z

-- what a hit leaves
pub hit_leaves : (s : Setup) (a : Commit) (held : List Held) (hit : IsHit s a held) (z : Plain)
    → signal_left z (met hit.pend.accepts hit.target) ≡ left z a.call a.reply
hit_leaves s a held hit z =
    let m = is_message a.call hit.its hit.dev hit.ev hit.message in
    sym (m.leaves z (met hit.pend.accepts hit.target)) ∙ (λ d. left z a.call (sym hit.reply_is d))

module _ (s : Setup) (vcpus : HasVcpus s) (held : List Held) (stands : AllByRecursion (λ x. Stands s x.part) held) (x y : Plain) (sx : IsSized s x)
    (sy : IsSized s y) (agree : (p : Part) → Holds p held → SamePart x y p) where
  agrees : (ps : List Part) → ((p : Part) → IsIn p ps → Holds p held) → AgreesOn x y ps
  agrees ps all = record {
    layout = sym sx.layout ∙ sy.layout;
    translators = sym sx.translators ∙ sy.translators;
    redistributors = sym sx.redistributors
        ∙ sy.redistributors;
    parts = λ p at. agree p (all p at);
  }

  -- a call changes nothing outside its footprint
  stays : (z : Plain) → IsSized s z → (c : Call) (p : Part) → ¬ IsIn p (footprint z c) → SamePart z (answer z c).1 p
  stays z sz c p outside = (leaves z c record { vcpus = sym sz.redistributors ∙ (vcpus ∙ ap (λ (l : Layout). l.shape.vcpus) sz.layout) }).parts p outside

  standing : (p : Part) → Holds p held → Stands s p
  standing p owns = all_held (Stands s) (λ x. Stands s x.part) held p owns (λ x st. st) stands

  -- ---- all parts of the call are held

  module _ (c : Call) (covers : Covers x c held) where
    held_of : (p : Part) → IsIn p (footprint x c) → Holds p held
    held_of p at = all_in (λ q. Holds q held) (footprint x c) p at covers

    in_common : AgreesOn x y (footprint x c)
    in_common = agrees (footprint x c) held_of

    alike : footprint x c ≡ footprint y c
    alike = same_parts x y c in_common

    pub same_reply : reply_of x c ≡ reply_of y c
    same_reply = (decides x y c in_common).0

    pub covers_there : Covers y c held
    covers_there = subst (λ (ps : List Part). AllByRecursion (λ p. Holds p held) ps) alike covers

    pub answered_same : (p : Part) → Holds p held → SamePart (answer x c).1 (answer y c).1 p
    answered_same p owns = ⊎_elim
        (λ (at : IsIn p (footprint x c)). (decides x y c in_common).1 p at)
        (λ (outside : ¬ IsIn p (footprint x c)).
        same_through (answer x c).1 x (answer y c).1 p (same_back x (answer x c).1 p (stays x sx c p outside))
        (same_through x y (answer y c).1 p (agree p owns) (stays y sy c p (λ at. outside (subst (IsIn p) (sym alike) at)))))
        (in_or_not s p (standing p owns) (footprint x c) (all_weaker (λ p. Holds p held) (Stands s) (footprint x c) standing covers))

    pub others_same : (p : Part) → ¬ Holds p held → SamePart y (answer y c).1 p
    others_same p lacks = stays y sy c p (λ at. lacks (held_of p (subst (IsIn p) (sym alike) at)))

  -- ---- a hit

  module _ (target : Target) (pend : Holds (part.Pend target.vcpu) held) where
    sent_same : (p : Part) → Holds p held → SamePart (sent target x) (sent target y) p
    sent_same p owns = (agree_set (parts_of held) x y target.intid.0 target.vcpu.0 (holds_in (part.Pend target.vcpu) held pend)
        (agrees (parts_of held) (λ q at. in_holds q held at))).parts p (holds_in p held owns)

    pub sent_others : (p : Part) → ¬ Holds p held → SamePart y (sent target y) p
    sent_others p lacks =
        (stay_pend y y (part.Pend target.vcpu ∷ []) target.vcpu.0
        (record { pending = with_lpi target.intid.0 (pending_of y target.vcpu.0); accepts = is_on y target.vcpu.0 }) (in_head (part.Pend target.vcpu) [])
        (stay y (part.Pend target.vcpu ∷ []))).parts p
        (λ at. lacks (all_in (λ q. Holds q held) (part.Pend target.vcpu ∷ []) p at (pend, tt)))

    met_same : (on : Bool) (p : Part) → Holds p held → SamePart (signal_left x (met on target)) (signal_left y (met on target)) p
    met_same true p owns = sent_same p owns
    met_same false p owns = agree p owns

    pub met_others : (on : Bool) (p : Part) → ¬ Holds p held → SamePart y (signal_left y (met on target)) p
    met_others true p lacks = sent_others p lacks
    met_others false p lacks = (stay y (part.Pend target.vcpu ∷ [])).parts p (λ at. lacks
        (all_in (λ q. Holds q held) (part.Pend target.vcpu ∷ []) p at (pend, tt)))

  -- ---- either

  pub left_same : (a : Commit) → IsAnswered x a.call a.reply held ⊎ IsHit s a held → (p : Part) → Holds p held
      → SamePart (left x a.call a.reply) (left y a.call a.reply) p
  left_same a one p owns = ⊎_elim
      (λ (t : IsAnswered x a.call a.reply held).
      subst (λ (r : Reply × Reply). SamePart (left x a.call r.0) (left y a.call r.1) p)
      (λ d. (sym t.reply_is d, sym (t.reply_is ∙ same_reply a.call t.covers) d)) (answered_same a.call t.covers p owns))
      (λ (t : IsHit s a held). subst (λ (z : Plain × Plain). SamePart z.0 z.1 p) (λ d. (hit_leaves s a held t x d, hit_leaves s a held t y d))
      (met_same t.target (owes_holds (part.Pend t.target.vcpu) (Pend t.pend) held t.target_owes) t.pend.accepts p owns)) one
