use Rattle.std.proofs.Common.{rules, arith, ◌≡◌, ℕ, ◌+◌, ◌*◌, ◌<◌, ◌≤◌, List, length, replicate, ap, sym, ◌∙◌, subst}
use Rattle.atomic_table.specs.Table.{opening}
use Rattle.its_types.specs.Ranges.{most_vcpus}
use Rattle.its_plain.specs.Machine.{layout_of}
use Rattle.its_plain.specs.declared.desc.Desc.{Desc}
use Rattle.its_plain.specs.declared.layout.Layout.{Layout}
use Rattle.its_steps.specs.Parts.{HasVcpus, Setup, part_count, translator_count, vcpu_count}
use Rattle.its_steps.specs.World.{first_view}
use Rattle.owned_parts.specs.declared.parts.Parts.{Parts}
use Rattle.its_turns.specs.Opening.{setup_from, first_words}
use Rattle.its_turns.specs.Rule.{Kept, setup_of}
use Rattle.its_turns.specs.Words.{HaveRoom, packing_of}
use Rattle.its_turns.specs.declared.value.Value.{Value}
use Rattle.its_turns.proofs.Described.{kept_long}
use Rattle.its_turns.proofs.Opening.{opens, values_long, apart_long}
use Rattle.its_turns.proofs.Stamps.{some_count, few_shards, low_stamps}
use Rattle.its_turns.proofs.machine.Machine.new.Goals as goal

pub table_of-requires : goal.table_of-requires
table_of-requires c =
    let s : Setup = setup_from c.args.desc.now c.args.parts in
    let slots = c.in_ok-slots.ensures in let values = slots.0 in
    let vcpus : c.args.parts.layout.shape.vcpus ≡ c.args.desc.now.shape.vcpus = ap (λ (l : Layout). l.shape.vcpus) c.requires.layout in
    let translators : c.len-translators.result ≡ translator_count s = c.len-translators.ensures ∙ c.requires.translators in
    let shards : c.from.result * c.args.desc.now.shards ≡ translator_count s * s.shards = ap (λ (n : ℕ). n * s.shards) (c.from.ensures ∙ translators) in
    let count : 16 * (c.from-first_shard.result + 1 + c.from.result * c.args.desc.now.shards + c.from-2.result + c.from-3.result + 1) ≡ 16 * (part_count s + 1) =
    omega (arith, vcpus, translators, shards, c.from-first_shard.ensures, c.from-2.ensures, c.from-3.ensures) in
    let ws : c.as_slice.result.now ≡ first_words (part_count s) = c.as_slice.ensures.value ∙ c.in_ok-frame.ensures.words ∙ ap (λ (n : ℕ). replicate n 0) count in
    let here : Kept s (opening c.as_slice.result.now c.in_ok-slots.slots.items (first_view s)) =
    subst (λ (x : List ℕ × List Value). Kept s (opening x.0 x.1 (first_view s))) (λ d. (sym ws d, sym slots.2 d))
    (opens s values c.requires.sound slots.1) in
    subst (λ (x : Desc × Parts). Kept (setup_from x.0 x.1) (opening c.as_slice.result.now c.in_ok-slots.slots.items (first_view (setup_from x.0 x.1))))
    (λ d. (sym c.of.ensures d, sym c.of-2.ensures d)) here

pub invariant_of-result : goal.invariant_of-result
invariant_of-result c =
    let s : Setup = setup_from c.args.desc.now c.args.parts in
    let slots = c.in_ok-slots.ensures in let values = slots.0 in
    let e = c.in_ok-table.ensures in
    let key : setup_of c.in_ok-table.table.shared.key ≡ s = ap setup_of e.key ∙ (λ d. setup_from (c.of.ensures d) (c.of-2.ensures d)) in
    let long : length c.in_ok-slots.slots.items ≡ 8 * part_count s =
    ap (λ (l : List Value). length l) slots.2
    ∙ (apart_long values ∙ ap (λ (n : ℕ). 8 * n) (values_long s values c.requires.sound slots.1)) in
    let parts : part_count (setup_of c.in_ok-table.table.shared.key) ≡ part_count s = ap (λ (x : Setup). part_count x) key in
    let vcpus : c.args.parts.layout.shape.vcpus ≡ c.args.desc.now.shape.vcpus = ap (λ (l : Layout). l.shape.vcpus) c.requires.layout in
    let layout : c.in_ok-frame.frame.layout ≡ c.args.parts.layout = c.in_ok-frame.ensures.layout in
    let words : length c.as_slice.result.now ≡ 16 * (c.from-first_shard.result + 1 + c.from.result * c.args.desc.now.shards + c.from-2.result + c.from-3.result + 1) =
    ap length c.as_slice.ensures.value ∙ c.in_ok-frame.ensures.count in
    let translators : c.len-translators.result ≡ translator_count s = c.len-translators.ensures ∙ c.requires.translators in
    let shards : c.from.result * c.args.desc.now.shards ≡ translator_count s * s.shards = ap (λ (n : ℕ). n * s.shards) (c.from.ensures ∙ translators) in
    let some_number = some_count s c.requires.apart in
    let few : translator_count s * s.shards ≤ 128 = few_shards s c.requires.apart c.requires.most_shards in
    let counts : translator_count (setup_of c.in_ok-table.table.shared.key) ≡ translator_count s = ap (λ (x : Setup). translator_count x) key in
    let processors : vcpu_count (setup_of c.in_ok-table.table.shared.key) ≡ vcpu_count s = ap (λ (x : Setup). vcpu_count x) key in
    let before : c.from-first_shard.result ≡ translator_count s = c.from-first_shard.ensures ∙ translators in
    record {
      described = search rules;
      built = (
        layout ∙ sym (ap (λ (x : Setup). x.start.layout) key),
        ap (λ (d : Desc). layout_of d) c.in_ok-frame.ensures.desc ∙ sym (layout ∙ c.requires.layout),
      );
      sized = (e.slots ∙ (long ∙ ap (λ (n : ℕ). 8 * n) (sym parts)), omega (arith, e.words, words, parts, vcpus, shards, before, c.from-2.ensures, c.from-3.ensures));
      laid = (
        ap (λ (x : Setup). translator_count x) key ∙ (sym c.requires.translators ∙ (sym (kept_long c.args.desc.now)
            ∙ ap (λ (d : Desc). length d.translators) (sym c.in_ok-frame.ensures.desc))),
        subst HasVcpus (sym key) c.requires.sound.vcpus,
      );
      paired = (
        omega (arith, translators, some_number.0),
        omega (arith, translators, some_number.1),
        (λ two. subst (λ (d : Desc). d.limits.stamp_last < 4096) (sym c.in_ok-frame.ensures.desc) (low_stamps s c.requires.apart (sym translators ∙ two))),
      );
      ordered = (
        translators ∙ sym counts,
        omega (arith, c.from-first_shard.ensures),
        omega (arith, vcpus, processors, c.from-2.ensures),
        omega (arith, before, shards, parts, processors, vcpus, c.from-2.ensures),
        omega (arith, before, shards, few, some_number.1),
      );
      shifted = omega (arith, translators, some_number.0);
      small = subst (λ (d : Desc). (1 ≤ d.shards) × (d.shards ≤ 64) × (d.shape.vcpus ≤ most_vcpus)) (sym c.in_ok-frame.ensures.desc)
          (c.requires.some_shards, c.requires.most_shards, c.requires.vcpus);
      room = subst (λ (d : Desc). HaveRoom d.limits (length d.translators)) (sym c.in_ok-frame.ensures.desc)
          (subst (λ (n : ℕ). HaveRoom c.args.desc.now.limits n) (sym (kept_long c.args.desc.now))
          record { stamps = c.requires.stamps; places = c.requires.places; few_stamps = c.requires.few_stamps; alone = c.requires.alone });
      packed = c.packing_of.ensures ∙ ap (λ (d : Desc). packing_of d.limits) (sym c.in_ok-frame.ensures.desc);
    }
