-- Loads of the word, lost tries, and commits.
use Rattle.std.proofs.Common.{◌≡◌, ◌≢◌, ℕ, suc, ◌+◌, ◌<◌, ◌≤◌, List, [], ◌∷◌, ◌++◌, length, refl, ap, sym, ◌∙◌, subst, inl, inr, ⊎_elim, arith, length-append}
use Rattle.std.specs.List.{AllByRecursion}
use mathlib.Core.Option.{Option, some}
use lib.ListN.{get_elem?}
use Rattle.its_types.specs.declared.machine.Part.{Part}
use Rattle.its_types.specs.declared.machine.Word.{Word}
use Rattle.its_plain.specs.Answer.{answer}
use Rattle.its_plain.specs.History.{after}
use Rattle.its_plain.specs.Plain.{Plain}
use Rattle.its_plain.specs.declared.call.Entry.{Entry}
use Rattle.its_steps.specs.Contents.{Content, Held}
use Rattle.its_steps.specs.Good.{Holds, turn_of, slot_of, IsHeld, Ended, IsEnded, IsWhole}
use Rattle.its_steps.specs.Laws.{LoadKeeps, MissKeeps, CommitKeeps, ReaderHasSeen}
use Rattle.its_steps.specs.MayCommit.{IsRight, IsOut, AreSameParts, Answers}
use Rattle.its_steps.specs.Parts.{Setup, Stands, index_of, stamp_of, Right}
use Rattle.its_steps.specs.World.{Placed, lost_to, word_after, entry_of, committed}
use Rattle.its_steps.proofs.Helds.{all_change, same_holds, same_apart}
use Rattle.its_steps.proofs.Lists.{prefix_self, prefix_more, prefix_whole, prefix_length, after_snoc, legal_snoc, placed_mine, placed_other, all_weaker}
use Rattle.its_steps.proofs.Lists.{all_snoc}
use Rattle.its_steps.proofs.Machines.{of_machine}
use Rattle.its_steps.proofs.Steps.{pass, changed, held_turn, same_turn, hears, holds}

pub keeps_load : LoadKeeps
keeps_load s h w good i v at passes =
    let k = (pass s h w good i v at passes).knows in
    hears s h w good i v at passes h v.told w.word (inl refl) record {
      seen = prefix_self h;
      told = k.told;
      mine = k.mine;
      place = sym good.history.place;
      last = λ _. refl;
    }

pub keeps_miss : MissKeeps
keeps_miss s h w good i v at passes p found =
    holds s h w good i v at passes v.held v.cache (lost_to v.tries p found) w.turns w.slots (pass s h w good i v at passes).holds
    (λ n xs ne t. t) good.parts.wide good.parts.home (same_turn s h w good i v at passes)

pub reader : ReaderHasSeen
reader s h w good i v at passes e = let k = (pass s h w good i v at passes).knows in (
  k.last e,
  prefix_whole v.seen h k.seen
      (omega (arith, k.place, e, good.history.place)),
)

-- what holds of each pass that was joined
all_ended : (P Q : ℕ × Placed → Type 0) (xs : Ended) → ((x : ℕ × Placed) → IsEnded x.0 xs → P x → Q x) → AllByRecursion P xs → AllByRecursion Q xs
all_ended P Q [] f ps = tt
all_ended P Q (x ∷ xs) f ps = (f x (inl refl) ps.0, all_ended P Q xs (λ y h. f y (inr h)) ps.1)

-- other contents are owed, and right, at the same turns and slots
owed_held : (s : Setup) (word to : Word) (u u' : Plain) (turns : List ℕ) (slots : List (Option Content)) (n : ℕ) (held owed : List Held)
    → AreSameParts held owed → AllByRecursion IsOut held
    → AllByRecursion (IsRight s to u') owed → AllByRecursion (IsHeld s word u turns slots n) held → AllByRecursion (IsHeld s to u' turns slots n) owed
owed_held s word to u u' turns slots n [] [] same out right hs = tt
owed_held s word to u u' turns slots n [] (y ∷ ys) same out right hs = absurd same
owed_held s word to u u' turns slots n (x ∷ xs) [] same out right hs = absurd same
owed_held s word to u u' turns slots n (x ∷ xs) (y ∷ ys) same out right hs =
    let a = hs.0 in (
      record {
        stands = subst (Stands s) same.0 a.stands;
        turn = subst (λ (p : Part). turn_of s turns p ≡ suc n) same.0 a.turn;
        slot = ap (λ (p : Part). get_elem? slots (index_of s p)) (sym same.0)
            ∙ (a.slot ∙ ap some (ap (λ b. slot_of b x.owed) out.0 ∙ ap (λ b. slot_of b y.owed) (sym same.1)));
        right = right.0;
      },
      owed_held s word to u u' turns slots n xs ys same.2 out.1 right.1 hs.1,
    )

pub right_held : (s : Setup) (word : Word) (u : Plain) (turns : List ℕ) (slots : List (Option Content)) (n : ℕ) (held : List Held)
    → AllByRecursion (IsHeld s word u turns slots n) held → AllByRecursion (IsRight s word u) held
right_held s word u turns slots n held hs = all_weaker (IsHeld s word u turns slots n) (IsRight s word u) held (λ x t. t.right) hs

pub keeps_commit : CommitKeeps
keeps_commit s h w good i v at passes a owed now may =
    let f = pass s h w good i v at passes in
    let to : Word = word_after a in
    let e : Entry = entry_of v a in
    let h' : List Entry = h ++ e ∷ [] in
    let u : Plain = after s.start h in
    let does : Answers s a v.held owed u = may.answers u (of_machine s good.history.sound h) (subst (λ (x : Word). AllByRecursion (IsRight s x u) v.held) now
    (right_held s w.word u w.turns w.slots v.number v.held f.holds.held)) in
    let left : after s.start h' ≡ (answer u a.call).1 = after_snoc s.start h e in
    let here : a.expected.place ≡ length h = sym (good.history.place ∙ ap (λ (x : Word). x.place) now) in
    let long : length h' ≡ to.place = omega (arith, length-append h (e ∷ []), here) in
    let stays : (p : Part) (c : Content) → Stands s p → turn_of s w.turns p ≢ suc v.number → Right s w.word u p c → Right s to (after s.start h') p c =
    λ p c st ne r.
    subst (λ (z : Plain). Right s to z p c) (sym left) (does.others p c st (λ own. ne (held_turn s h w good i v at passes p own))
    (subst (λ (x : Word). Right s x u p c) now r)) in
    changed s h w good i v at passes h' to w.turns w.slots (committed v h a owed) passes refl refl (inl refl) (e ∷ [], refl)
    record {
      sound = good.history.sound;
      legal = legal_snoc s.start h e good.history.legal does.reply_is;
      place = long;
      within = record {
        place = omega (arith, may.room);
        stamps = λ its lt. may.stamps its lt (subst (λ (x : Word). stamp_of s x its ≤ s.limits.stamp_last) now
            (good.history.within.stamps its lt));
      };
    }
    (all_ended (IsWhole h good.root.made) (IsWhole h' good.root.made) good.root.ended
    (λ x ended t. (t.0, t.1 ∙ sym (placed_other x.0 0 h e (λ same. f.sits.present (subst (λ (n : ℕ). IsEnded n good.root.ended) (sym same) ended)))))
    good.numbers.whole)
    (all_snoc (λ x. x.pass < good.root.made) h e good.numbers.calls f.sits.given)
    record {
      setup = f.setup;
      sits = f.sits;
      knows = record {
        seen = prefix_self h';
        told = prefix_more v.told h (e ∷ []) f.knows.told;
        mine = (let at_end : a.expected.place ≡ 0 + length h = omega (arith, here) in λ d. f.knows.mine d ++ (at_end d, e) ∷ [])
            ∙ sym (placed_mine v.number 0 h e refl);
        place = sym long;
        last = λ _. refl;
      };
      holds = record {
        apart = same_apart v.held owed may.same f.holds.apart;
        held = owed_held s w.word to u (after s.start h') w.turns w.slots v.number v.held owed may.same may.out
            (subst (λ (z : Plain). AllByRecursion (IsRight s to z) owed) (sym left) does.new) f.holds.held;
      };
    }
    (λ j x ne g. record {
      setup = g.setup;
      sits = g.sits;
      knows = record {
        seen = prefix_more x.seen h (e ∷ []) g.knows.seen;
        told = prefix_more x.told h (e ∷ []) g.knows.told;
        mine = g.knows.mine ∙ sym (placed_other x.number 0 h e (λ same. ne (sym same)));
        place = g.knows.place;
        last = λ same. absurd (omega (arith, same, g.knows.place, prefix_length x.seen h g.knows.seen, long, length-append h (e ∷ [])));
      };
      holds = record {
        apart = g.holds.apart;
        held = all_change (IsHeld s w.word u w.turns w.slots x.number) (IsHeld s to (after s.start h') w.turns w.slots x.number) x.held
            (λ y _ t. record {
              stands = t.stands;
              turn = t.turn;
              slot = t.slot;
              right = stays y.part y.owed t.stands (λ own. ne (omega (arith, t.turn, own)))
                  t.right;
            }) g.holds.held;
      };
    })
    good.parts.wide (λ p st free. let q = good.parts.home p st free in record {
      content = q.content;
      slot = q.slot;
      right = stays p q.content st (λ own. absurd (omega (arith, free, own))) q.right;
    })
    (λ p n st t. ⊎_elim (λ (x : (n ≡ v.number) × Holds p v.held). inl (x.0, same_holds p v.held owed may.same x.1)) (λ x. inr x)
    (same_turn s h w good i v at passes p n st t))
