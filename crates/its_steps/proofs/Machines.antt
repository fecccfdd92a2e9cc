-- Every history of a machine leaves a state of it.
use Rattle.std.proofs.Common.{List, [], ◌∷◌, refl, ap, sym, ◌∙◌}
use Rattle.its_plain.specs.Answer.{answer}
use Rattle.its_plain.specs.History.{after}
use Rattle.its_plain.specs.Plain.{Plain}
use Rattle.its_plain.specs.declared.layout.Layout.{Layout}
use Rattle.its_plain.specs.Sound.{IsSound}
use Rattle.its_plain.specs.declared.call.Call.{Call}
use Rattle.its_plain.specs.declared.call.Entry.{Entry}
use Rattle.plain_footprint.proofs.OtherParts.{leaves}
use Rattle.plain_soundness.proofs.Answers.{calls_keep}
use Rattle.its_steps.specs.Parts.{Setup, IsOfMachine}

pub first_of : (s : Setup) → IsSound s.start → IsOfMachine s s.start
first_of s sound = record { sound = sound; layout = refl; translators = refl; redistributors = refl }

-- a call leaves one
pub next_of : (s : Setup) (u : Plain) (c : Call) → IsOfMachine s u → IsOfMachine s (answer u c).1
next_of s u c m =
    let l = leaves u c record { vcpus = m.sound.vcpus } in
    let sound : IsSound (answer u c).1 = calls_keep u c m.sound in
    record {
      sound = sound;
      layout = m.layout ∙ l.layout;
      translators = m.translators ∙ l.translators;
      redistributors = m.redistributors ∙ (m.sound.vcpus ∙ (ap (λ (x : Layout). x.shape.vcpus) l.layout ∙ sym sound.vcpus));
    }

ends : (s : Setup) (u : Plain) (h : List Entry) → IsOfMachine s u → IsOfMachine s (after u h)
ends s u [] m = m
ends s u (e ∷ h) m = ends s (answer u e.call).1 h (next_of s u e.call m)

pub of_machine : (s : Setup) → IsSound s.start → (h : List Entry) → IsOfMachine s (after s.start h)
of_machine s sound h = ends s s.start h (first_of s sound)
