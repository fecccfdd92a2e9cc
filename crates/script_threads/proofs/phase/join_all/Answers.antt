use Rattle.std.proofs.Common.{rules, arith, ◌≡◌, ◌++◌, ◌∷◌, [], None, map, subst, sym, ap, ◌∙◌}
use Rattle.its_steps.specs.Good.{Ended}
use Rattle.its_steps.proofs.Lists.{all_snoc, all_weaker, prefix_through}
use Rattle.its_turns.specs.Machines.{view}
use Rattle.script_threads.specs.Jobs.{SeenBy, end_of, reply_list, worse}
use Rattle.script_threads.specs.Roots.{TookIn}
use Rattle.script_threads.proofs.Rooms.{map_snoc}
use Rattle.script_threads.proofs.Roots.{took_more}
use Rattle.script_threads.proofs.Stops.{worst_snoc}
use Rattle.script_threads.proofs.phase.join_all.Goals as goal

pub loop-job-preserved : goal.loop-job-preserved
loop-job-preserved c =
    let w = c.loop-job.invariant in let s = c.join.ensures.view in let js = c.loop-job.yielded in let j = c.in-Some.job in
    let v = view c.args.root.now in let u = view c.loop-job.root in let x = view c.join.new.self in
    let pushed : c.push.new.self.items ≡ c.loop-job.lists.items ++ j.done.items ∷ [] = search rules in (
      tt,
      tt,
      c.join.ensures.of,
      subst (λ (xs : Ended). TookIn v xs x) (sym (map_snoc end_of js j))
          (took_more v u (view j.pass) x (map end_of js) s.0 w.3 c.requires.root s.1 c.join.ensures.seen.0),
      pushed ∙ ((λ i. w.4 i ++ j.done.items ∷ []) ∙ sym (map_snoc reply_list js j)),
      c.worse-worst.ensures ∙ (ap (λ z. worse z j.stop) w.5 ∙ sym (worst_snoc None js j)),
      omega (arith, w.6, c.push.ensures.capacity),
      all_snoc (SeenBy x) js j (all_weaker (SeenBy u) (SeenBy x) js (λ y t. prefix_through (view y.pass).seen u.seen x.seen t c.join.ensures.seen.0) w.7)
          c.join.ensures.seen.1,
    )
