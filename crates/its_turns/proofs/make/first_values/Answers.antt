use Rattle.std.proofs.Common.{rules, arith, refl, ap, sym, ◌∙◌, ◌≡◌, ◌*◌, ◌≤◌, ℕ, List, [], map, length, get_or, subst, Option, None, mul-le-mul_right, append-nil}
use Rattle.std.specs.List.{range_with_len}
use Rattle.std.specs.Option.{is_some}
use mathlib.Core.Option.{some}
use Rattle.lpi_config.specs.Conf.{conf_state}
use Rattle.lpi_config.specs.Conf.{Conf as ConfInHand}
use Rattle.lpi_pending.specs.InHand.{pend_state, HasLpisOfConf, HasLpisOfPend}
use Rattle.lpi_pending.specs.Pend.{Pend as PendInHand}
use Rattle.owned_parts.specs.Owned.{conf_or, pend_or, state_of_parts, translators_of}
use Rattle.its_steps.specs.Contents.{Conf, Pend}
use Rattle.its_steps.proofs.Lists.{all_snoc}
use Rattle.its_turns.specs.Contents.{IsFit}
use Rattle.its_turns.specs.Opening.{setup_from}
use Rattle.its_turns.proofs.Opening.{front, conf_shown, pend_shown, with_memory, next_shard, next_listed, all_values, maps_long, most_maps, later_same, same_some}
use Rattle.its_turns.proofs.Places.{all_empty}
use Rattle.its_turns.proofs.make.first_values.Goals as goal

pub overflow_mul-shards : goal.overflow_mul-shards
overflow_mul-shards c = let p = c.args.parts in
    let long : c.len.result ≤ 2 = most_maps p.first p.second c.in_ok-values.values.items c.len.result (search rules) c.in_ok-values.ensures in
    let most : c.len.result * c.args.desc.now.shards ≤ 2 * c.args.desc.now.shards = mul-le-mul_right c.args.desc.now.shards long in
    omega (arith, most)

pub loop-shard-init : goal.loop-shard-init
loop-shard-init c =
    let p = c.args.parts in
    let are = c.in_ok-values.ensures in
    rw (c.in_ok-push.ensures.items) (
      with_memory (state_of_parts p) c.in_ok-values.values.items _ are (search rules),
      all_snoc (IsFit (setup_from c.args.desc.now p)) c.in_ok-values.values.items _ (are.fit (setup_from c.args.desc.now p))
          (all_empty p.layout.shape.vcpus _ (search rules)),
    )

pub loop-shard-preserved : goal.loop-shard-preserved
loop-shard-preserved c =
    let l = c.loop-shard in let p = c.args.parts in
    rw (c.in_ok-push-2.ensures.items) (
      next_shard (state_of_parts p) l._shard l.values.items _ (search rules) l.invariant.0,
      all_snoc (IsFit (setup_from c.args.desc.now p)) l.values.items _ l.invariant.1 tt,
    )

pub take_conf-requires : goal.take_conf-requires
take_conf-requires c = let l = c.loop-vcpu in let h = (c.requires.hand l.vcpu c.loop-vcpu-test.true).0 in
    ap is_some (l.invariant.2 l.vcpu (omega arith) ∙ h.1)

pub loop-vcpu-preserved : goal.loop-vcpu-preserved
loop-vcpu-preserved c =
    let l = c.loop-vcpu in let p = c.args.parts in let s = setup_from c.args.desc.now p in
    let h = (c.requires.hand l.vcpu c.loop-vcpu-test.true).0 in
    let same : h.0 ≡ c.take_conf.result.value = same_some _ _ (sym h.1 ∙ (sym (l.invariant.2 l.vcpu (omega arith)) ∙ c.take_conf.ensures.value)) in
    rw (c.in_ok-push-3.ensures.items, c.take_conf.ensures.taken) (
      next_listed (state_of_parts p) _ [] (conf_shown p.redists) l.vcpu l.values.items _
          (ap (λ (x : ConfInHand). some (Conf (conf_state x))) (sym same) ∙ ap (λ (o : Option ConfInHand). some (Conf (conf_or o))) (sym h.1))
          l.invariant.0,
      all_snoc (IsFit s) l.values.items _ l.invariant.1 (subst (HasLpisOfConf p.layout.shape) same h.2),
      (λ k le. later_same l.redists.confs p.redists.confs l.vcpu k le l.invariant.2),
      l.invariant.3,
    )

pub loop-vcpu-2-init : goal.loop-vcpu-2-init
loop-vcpu-2-init c = let l = c.loop-vcpu in let p = c.args.parts in
    let all : l.vcpu ≡ p.layout.shape.vcpus = omega (arith, l.auto.vcpu-end, c.loop-vcpu-test.false) in (
      l.invariant.0 ∙ ap (front (state_of_parts p) _) (ap (λ (n : ℕ). map (conf_shown p.redists) (range_with_len 0 n)) all
          ∙ sym (append-nil (map (conf_shown p.redists) (range_with_len 0 p.layout.shape.vcpus)))),
      l.invariant.1,
      (λ k le. ap (λ (xs : List (Option PendInHand)). get_or xs k None) l.invariant.3),
    )

pub take_pend-requires : goal.take_pend-requires
take_pend-requires c = let l = c.loop-vcpu-2 in let h = (c.requires.hand l.vcpu c.loop-vcpu-2-test.true).1 in
    ap is_some (l.invariant.2 l.vcpu (omega arith) ∙ h.1)

pub loop-vcpu-2-preserved : goal.loop-vcpu-2-preserved
loop-vcpu-2-preserved c =
    let l = c.loop-vcpu-2 in let p = c.args.parts in let s = setup_from c.args.desc.now p in
    let h = (c.requires.hand l.vcpu c.loop-vcpu-2-test.true).1 in
    let same : h.0 ≡ c.take_pend.result.value = same_some _ _ (sym h.1 ∙ (sym (l.invariant.2 l.vcpu (omega arith)) ∙ c.take_pend.ensures.value)) in
    rw (c.in_ok-push-4.ensures.items, c.take_pend.ensures.taken) (
      next_listed (state_of_parts p) _ (map (conf_shown p.redists) (range_with_len 0 p.layout.shape.vcpus)) (pend_shown p.redists) l.vcpu l.values.items _
          (ap (λ (x : PendInHand). some (Pend (pend_state x))) (sym same) ∙ ap (λ (o : Option PendInHand). some (Pend (pend_or o))) (sym h.1))
          l.invariant.0,
      all_snoc (IsFit s) l.values.items _ l.invariant.1 (subst (HasLpisOfPend p.layout.shape) same h.2),
      (λ k le. later_same l.redists.pends p.redists.pends l.vcpu k le l.invariant.2),
    )

pub returns : goal.returns
returns c = let l = c.loop-vcpu-2 in let p = c.args.parts in
    let count : c.len.result ≡ length c.in_ok-values.values.items = search rules in
    let long : length c.in_ok-values.values.items ≡ length (translators_of p.first p.second) =
    maps_long (translators_of p.first p.second) c.in_ok-values.values.items c.in_ok-values.ensures in
    all_values c.args.desc.now p _ p.layout.shape.vcpus l.vcpu l.values.items (ap (λ (n : ℕ). n * c.args.desc.now.shards) (count ∙ long)) refl
    (omega (arith, l.auto.vcpu-end, c.loop-vcpu-2-test.false)) l.invariant.1 l.invariant.0
