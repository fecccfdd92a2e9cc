use Rattle.std.proofs.Common.{◌≡◌, ℕ, List, ◌∷◌, Option, Some, ap, sym, subst, ◌∙◌}
use Rattle.its_types.specs.declared.ids.DeviceId.{DeviceId}
use Rattle.its_types.specs.declared.translation.Device.{Device}
use Rattle.table_save.specs.Pass.{RisesFrom, FitsDevice, pack_device, device_entry_word, devices_with}
use Rattle.table_save.proofs.Rises.{word_before}
use Rattle.table_save.proofs.devices.DeviceFront.word_at.Goals as goal

before : (i : ℕ) (first : Option (DeviceId × Device)) (rest es : List (ℕ × Device)) (d : DeviceId × Device) → devices_with first rest ≡ es → first ≡ Some d
    → (d.0.0 ≡ i → ⊥) → RisesFrom i es
    → 0 ≡ device_entry_word es i
before i first rest es d view is apart rises =
    let e : (d.0.0, d.1) ∷ rest ≡ es = ap (λ o. devices_with o rest) (sym is) ∙ view in
    subst (λ (xs : List (ℕ × Device)). RisesFrom i xs → 0 ≡ device_entry_word xs i) e
    (λ r. word_before FitsDevice pack_device 16383 i (d.0.0, d.1) rest r apart) rises

pub returns-in_default-clause-word : goal.returns-in_default-clause-word
returns-in_default-clause-word c = before c.args.id c.self.inside.first c.self.inside.rest c.args.self.now (c.in-Some.dev, c.in-Some.device) c.self.view_is
    c.in-Some.is c.if-dev-id.false c.requires.rises
