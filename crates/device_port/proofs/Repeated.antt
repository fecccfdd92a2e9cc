-- Devices' writes by address that are tried again and again.
use Rattle.std.proofs.Common.{◌≡◌, List, [], ◌∷◌, length, ap, sym, ◌∙◌, subst, refl, arith}
use Rattle.its_types.specs.declared.machine.Part.{Part}
use Rattle.its_types.specs.declared.machine.Part.TheVariants as part
use Rattle.its_types.specs.declared.machine.Placed.{Placed}
use Rattle.its_plain.specs.declared.call.Call.{Call}
use Rattle.its_plain.specs.declared.call.Route.{Route}
use Rattle.its_plain.specs.declared.call.Route.TheVariants as route
use Rattle.its_steps.specs.World.{View, Tries}
use Rattle.its_turns.specs.Calls.{Stays, IsPlaced, GaveUp, StillAsks, got_all, WasBusy, WasRaced, WasSpent}
use Rattle.its_turns.specs.declared.attempts.Attempt.TheVariants as attempt
use Rattle.its_turns.specs.declared.commits.Raced.{Raced}
use Rattle.its_turns.specs.declared.turns.Busy.{Busy}
use Rattle.its_turns.proofs.Telling.{stays_again, placed_again, got_first, got_more, again_busy, again_raced, asked_spent, asked_given_up}
use Rattle.device_port.specs.Dmas.{reply_of, Answers, Got}
use Rattle.device_port.specs.Messages.{message}
use Rattle.device_port.specs.Tries.{DmasOnce}
use Rattle.device_port.specs.declared.told.Dma.{Dma}
use Rattle.device_port.proofs.Asked as asked

pub none_got : (c : Call) (v : View) (to : Route) → Got v to v
none_got c v (route.Signal its dev ev) = asked.asks_first c (message its dev ev) v
none_got c v route.Poke = got_first (λ q. q ≡ part.Mem) v
none_got c v route.NoRequester = refl
none_got c v route.Frame = refl

-- no turn was got, since none is needed
no_tries : (v w x : View) (got : List Part) → w.tries ≡ v.tries → got ≡ [] → x.tries ≡ got_all got w.tries → x.tries ≡ v.tries
no_tries v w x got before none now = now ∙ (ap (λ (l : List Part). got_all l w.tries) none ∙ before)

module _ (c : Call) (v w : View) (stays : Stays v w) where
  -- memory's turn alone was got
  asks_memory : Got v route.Poke w → StillAsks (λ q. q ≡ part.Mem) v w
  asks_memory got = record { stays = stays; got = got }

  pub dma_busy : (to : Route) → Got v to w → (b : Busy) (x : View) → DmasOnce w c to x (attempt.Busy b) → Stays v x × Got v to x
  dma_busy (route.Signal its dev ev) got b x a = asked.again_busy c (message its dev ev) v w stays got b x (a.0, a.1.0, a.2, a.1.1, a.1.2)
  dma_busy route.Poke got b x a =
      let more = again_busy v w part.Mem (asks_memory got) b x (a.1.1, subst (λ (l : List Part). WasBusy w l b x) a.1.0 a.2) in
      (more.stays, more.got)
  dma_busy route.NoRequester got b x a = absurd a.1
  dma_busy route.Frame got b x a = absurd a.1

  pub dma_raced : (to : Route) → Got v to w → (r : Raced) (x : View) → DmasOnce w c to x (attempt.Raced r) → Stays v x × Got v to x
  dma_raced (route.Signal its dev ev) got r x a = asked.again_raced c (message its dev ev) v w stays got r x a
  dma_raced route.Poke got r x a =
      let more = again_raced v w part.Mem (asks_memory got) r x (subst (λ (l : List Part). WasRaced w l r x) a.1 a.2) in
      (more.stays, more.got)
  dma_raced route.NoRequester got r x a = (stays_again v w x stays a.2.stays, no_tries v w x a.0 got a.1 a.2.tries)
  dma_raced route.Frame got r x a = (stays_again v w x stays a.2.stays, no_tries v w x a.0 got a.1 a.2.tries)

  dma_no_place : (x : View) → WasSpent w [] x → length x.seen ≡ v.setup.limits.place_last
  dma_no_place x spent = spent.spent ∙ ap (λ (y : View). y.setup.limits.place_last) stays.same

  pub dma_spent : (to : Route) → Got v to w → (x : View) → DmasOnce w c to x attempt.Spent → Stays v x × (length x.seen ≡ v.setup.limits.place_last)
      × Got v to x
  dma_spent (route.Signal its dev ev) got x a =
      let more = asked.asked_spent c (message its dev ev) v w stays got x a in
      (more.1, more.2, more.0)
  dma_spent route.Poke got x a = asked_spent v w part.Mem (asks_memory got) x (subst (λ (l : List Part). WasSpent w l x) a.1 a.2)
  dma_spent route.NoRequester got x a = (
    stays_again v w x stays a.2.stays,
    dma_no_place x (subst (λ (l : List Part). WasSpent w l x) a.1 a.2),
    no_tries v w x a.0 got a.1 a.2.tries,
  )
  dma_spent route.Frame got x a = (
    stays_again v w x stays a.2.stays,
    dma_no_place x (subst (λ (l : List Part). WasSpent w l x) a.1 a.2),
    no_tries v w x a.0 got a.1 a.2.tries,
  )

  got_done : (to : Route) → Got v to w → (p : Placed Dma) (x : View) → DmasOnce w c to x (attempt.Done p) → Got v to x
  got_done (route.Signal its dev ev) got p x a = asked.asks_more c (message its dev ev) v w stays got x a.0 (ap (λ (y : View). y.setup) a.2.same) a.1
      (ap (λ (t : Tries). t.won) a.4) (let lost = ap (λ (t : Tries). t.lost) a.4 in omega (arith, lost))
  got_done route.Poke got p x a =
      let tries : x.tries ≡ got_all (part.Mem ∷ []) w.tries = subst (λ (l : List Part). x.tries ≡ got_all l w.tries) a.1 a.4 in
      got_more (λ q. q ≡ part.Mem) v w x (part.Mem ∷ []) got (refl, tt) (ap (λ (t : Tries). t.won) tries)
      (let same = ap (λ (t : Tries). t.lost) tries in omega (arith, same))
  got_done route.NoRequester got p x a = no_tries v w x a.0 got a.1 a.4
  got_done route.Frame got p x a = no_tries v w x a.0 got a.1 a.4

  pub dma_done : (to : Route) → Got v to w → (p : Placed Dma) (x : View) → DmasOnce w c to x (attempt.Done p)
      → IsPlaced v c (reply_of p.reply) p.place x × Answers to p.reply x × Got v to x
  dma_done to got p x a = (placed_again v w x c (reply_of p.reply) p.place stays a.2, a.3, got_done to got p x a)

  pub dma_given_up : (to : Route) → Got v to w → (x : View) → to ≡ route.Poke → GaveUp w (part.Mem ∷ []) x → Stays v x × Got v to x
  dma_given_up to got x is up =
      let more = asked_given_up v w part.Mem (asks_memory (subst (λ (t : Route). Got v t w) is got)) x up in
      (more.0, subst (λ (t : Route). Got v t x) (sym is) more.1)
