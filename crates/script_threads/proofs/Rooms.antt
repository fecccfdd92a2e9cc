-- The jobs as they are made.
use Rattle.std.proofs.Common.{◌≡◌, ℕ, suc, ◌+◌, ◌<◌, ◌≤◌, List, [], ◌∷◌, ◌++◌, map, take, drop, length, get_or, Vec, vec_capacity, refl, ap, sym, ◌∙◌, subst}
use Rattle.std.proofs.Common.{arith, length-append, take-suc, drop-cons}
use Rattle.std.specs.List.{AllByRecursion}
use Rattle.std.specs.Global.{Global}
use Rattle.its_types.specs.declared.machine.Placed.{Placed}
use Rattle.its_types.specs.declared.machine.Word.{Word}
use Rattle.its_plain.specs.Runs.{Thread}
use Rattle.its_plain.specs.declared.call.Reply.{Reply}
use Rattle.its_steps.specs.World.{View, has_split, split_off}
use Rattle.its_steps.proofs.Lists.{all_snoc}
use Rattle.its_turns.specs.Machines.{view}
use Rattle.its_turns.specs.Told.{Looks}
use Rattle.its_turns.specs.declared.machine.Machine.{Machine}
use Rattle.script_threads.specs.declared.job.Job.{Job}
use Rattle.script_threads.specs.Jobs.{HasRoom, IsReady, AreNew, call_list}
use Rattle.script_threads.specs.Roots.{Gave}
use Rattle.script_threads.proofs.Roots.{gave_none, gave_more, numbered_next}

abbrev pub Replies : Type 0
Replies = Vec (Placed Reply) Global

pub map_snoc : {X Y : Type 0} (f : X → Y) (xs : List X) (x : X) → map f (xs ++ x ∷ []) ≡ map f xs ++ f x ∷ []
map_snoc f [] x = refl
map_snoc f (y ∷ xs) x = ap (λ w. f y ∷ w) (map_snoc f xs x)

pub room_snoc : (cs : List Thread) (ds : List Replies) (c : Thread) (d : Replies) → HasRoom cs ds → d.items ≡ [] → length c ≤ vec_capacity d
    → HasRoom (cs ++ c ∷ []) (ds ++ d ∷ [])
room_snoc [] [] c d r e le = (e, le, tt)
room_snoc [] (x ∷ ds) c d r e le = absurd r
room_snoc (x ∷ cs) [] c d r e le = absurd r
room_snoc (x ∷ cs) (y ∷ ds) c d r e le = (r.0, r.1, room_snoc cs ds c d r.2 e le)

-- what is known of the next list
pub room_next : (cs : List Thread) (k : ℕ) (c : Thread) (xs ys : List Replies) (d : Replies) → HasRoom (drop k cs) xs → xs ≡ d ∷ ys → c ≡ get_or cs k c
    → k < length cs → (d.items ≡ []) × (length c ≤ vec_capacity d) × HasRoom (drop (k + 1) cs) ys
room_next cs k c xs ys d r e is lt =
    let more : suc k ≡ k + 1 = omega arith in
    let found : HasRoom (c ∷ drop (k + 1) cs) (d ∷ ys) = subst (λ (z : List Thread × List Replies). HasRoom z.0 z.1)
    (λ i. ((drop-cons cs k c lt ∙ (λ j. sym is j ∷ drop (more j) cs)) i, e i)) r in found

new_snoc : (m : ℕ) (js : List Job) (j : Job) → AreNew m js → (view j.pass).number ≡ m + length js → (view j.pass).mine ≡ [] → AreNew m (js ++ j ∷ [])
new_snoc m [] j new number mine = (number ∙ omega arith, mine, tt)
new_snoc m (x ∷ js) j new number mine = (new.0, new.1, new_snoc (suc m) js j new.2 (number ∙ omega arith) mine)

pub record Made (m : Machine) (threads : List Thread) (v : View) (js : List Job) (x : View) : Type 0 where
  pub gave : Gave v (length js) x
  pub ready : AllByRecursion (IsReady m) js
  pub calls : map call_list js ≡ take (length js) threads
  pub new : AreNew v.root.made js

pub made_none : (m : Machine) (threads : List Thread) (v : View) (js : List Job) → js ≡ [] → Made m threads v js v
made_none m threads v js e = subst (λ (z : List Job). Made m threads v z v) (sym e) record { gave = gave_none v; ready = tt; calls = refl; new = tt }

pub made_more : (m : Machine) (threads : List Thread) (v u b x : View) (w : Word) (js : List Job) (j : Job) (c : Thread) → Made m threads v js u → v.number ≡ 0
    → Looks u w b → x ≡ has_split b → view j.pass ≡ split_off b
    → IsReady m j → call_list j ≡ c → c ≡ get_or threads (length js) c → length js < length threads → Made m threads v (js ++ j ∷ []) x
made_more m threads v u b x w js j c was root looks is1 is2 ready calls at lt =
    let more : length (js ++ j ∷ []) ≡ length js + 1 = omega (arith, length-append js (j ∷ [])) in
    let one_more : length (js ++ j ∷ []) ≡ suc (length js) = omega (arith, more) in
    record {
      gave = subst (λ (n : ℕ). Gave v n x) (sym more) (gave_more v u b x (length js) w was.gave root looks is1);
      ready = all_snoc (IsReady m) js j was.ready ready;
      calls = map_snoc call_list js j
          ∙ ((λ i. was.calls i ++ (calls ∙ at) i ∷ []) ∙ (sym (take-suc threads (length js) c lt) ∙ ap (λ n. take n threads) (sym one_more)));
      new = new_snoc v.root.made js j was.new (numbered_next v u b (view j.pass) (length js) w was.gave looks is2) (ap (λ (z : View). z.mine) is2);
    }
