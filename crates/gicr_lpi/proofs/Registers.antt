-- What a pass knows that tried what a write needs.
use Rattle.std.proofs.Common.{◌≡◌, true, List, [], ◌∷◌, Option, Some, None, Result, Ok, Err, refl, ap, sym, ◌∙◌, subst, inl, inr}
use Rattle.std.specs.Prelude.{Box, is_some, MatchResult}
use Rattle.std.specs.Global.{Global}
use Rattle.dirty_log.specs.declared.tracked.Tracked.{Tracked}
use Rattle.gicr_regs.specs.Registers.{reads_tables, changes_pending}
use Rattle.guest_windows.specs.Windows.{Window}
use Rattle.its_types.specs.declared.ids.Vcpu.{Vcpu}
use Rattle.its_types.specs.declared.machine.Part.{Part}
use Rattle.its_types.specs.declared.machine.Part.TheVariants as part
use Rattle.its_plain.specs.Plain.{ConfState, PendState}
use Rattle.its_steps.specs.Contents.{Content, Held, Mem, Conf, Pend}
use Rattle.its_steps.specs.Parts.{Setup}
use Rattle.its_steps.specs.World.{View, took, out}
use Rattle.its_turns.specs.Contents.{held_before}
use Rattle.its_turns.specs.Steps.{TakesPart, IsBusy}
use Rattle.its_turns.specs.Told.{HasStood, released}
use Rattle.its_turns.specs.declared.turns.Busy.{Busy}
use Rattle.its_turns.specs.declared.value.GuestMemory.{GuestMemory}
use Rattle.owned_parts.specs.Owned.{conf_state}
use Rattle.gicr_lpi.specs.Accesses.{asked, IsOfWrite, WasAsked}
use Rattle.gicr_lpi.specs.Frees.{HasRegisters}
use Rattle.gicr_lpi.specs.Hands.{held_of, memory_before, pend_before, memory_state, pend_of_hand}
use Rattle.gicr_lpi.specs.Tries.{GotAtOnce, FoundTaken}
use Rattle.gicr_lpi.specs.declared.access.GicrAccess.{GicrAccess}
use Rattle.gicr_lpi.specs.declared.hand.Hand.{Hand}
use Rattle.gicr_lpi.proofs.Once.{once_first, once_took, once_home, once_busy, once_then, taken_then}
use Rattle.held_parts.specs.Taking.{holding}

-- a part that was got had its content after some history of this machine
pub stood_here : (s : Setup) (v x : View) (p : Part) (c : Content) → v.setup ≡ s → TakesPart v p c x → HasStood s p c
stood_here s v x p c own takes = subst (λ (z : Setup). HasStood z p c) own takes.stood

-- ---- the registers, and memory where they say so

-- both were got
pub both_held : (vcpu : Vcpu) (v x y : View) (memory : List Window) (track : Option Tracked) (c : ConfState) → v.held ≡ [] → x ≡ took v part.Mem (Mem memory track)
    → y ≡ took x (part.Conf vcpu) (Conf c) → y.held ≡ held_of vcpu (record { memory = Some (memory, track); conf = c; pend = None })
both_held vcpu v x y memory track c bare first second = ap (λ (u : View). u.held) second
    ∙ ap (λ (l : List Held). out (part.Conf vcpu) (Conf c) ∷ l) (ap (λ (u : View). u.held) first ∙ ap (λ (l : List Held). out part.Mem (Mem memory track) ∷ l) bare)

-- the configuration alone
pub conf_held : (vcpu : Vcpu) (v x : View) (c : ConfState) → v.held ≡ [] → x ≡ took v (part.Conf vcpu) (Conf c)
    → x.held ≡ held_of vcpu (record { memory = None; conf = c; pend = None })
conf_held vcpu v x c bare takes = ap (λ (u : View). u.held) takes ∙ ap (λ (l : List Held). out (part.Conf vcpu) (Conf c) ∷ l) bare

module _ (s : Setup) (a : GicrAccess) where
  -- memory was got, and went home since the configuration was another pass's
  pub conf_busy : (v x y z : View) (memory : Content) (b : Busy) → WasAsked s a reads_tables → x ≡ took v part.Mem memory → IsBusy x (part.Conf a.vcpu) b y
      → z ≡ released y → FoundTaken (IsOfWrite s a) v b z
  conf_busy v x y z memory b asks first busy home =
      once_busy (IsOfWrite s a) v x
      (once_took (IsOfWrite s a) v v (once_first (IsOfWrite s a) v) x part.Mem memory (inr (inl (refl, asks))) first) y (part.Conf a.vcpu) b (inl refl) busy z
      (held_before y.held) home
      (ap (λ (l : List Held). held_before l) (ap (λ (u : View). u.held) busy.view ∙ ap (λ (u : View). u.held) first))

  pub got_conf : (v x : View) (c : ConfState) → x ≡ took v (part.Conf a.vcpu) (Conf c) → GotAtOnce (IsOfWrite s a) v x
  got_conf v x c takes = once_took (IsOfWrite s a) v v (once_first (IsOfWrite s a) v) x (part.Conf a.vcpu) (Conf c) (inl refl) takes

  pub got_both : (v x y : View) (memory : Content) (c : ConfState) → WasAsked s a reads_tables → x ≡ took v part.Mem memory
      → y ≡ took x (part.Conf a.vcpu) (Conf c) → GotAtOnce (IsOfWrite s a) v y
  got_both v x y memory c asks first second = once_took (IsOfWrite s a) v x
      (once_took (IsOfWrite s a) v v (once_first (IsOfWrite s a) v) x part.Mem memory (inr (inl (refl, asks))) first) y (part.Conf a.vcpu) (Conf c) (inl refl)
      second

  -- the configuration was put back
  module _ (v x y : View) (c : ConfState) (takes : x ≡ took v (part.Conf a.vcpu) (Conf c)) (home : y ≡ released x) where
    home_held : y.held ≡ v.held
    home_held = ap (λ (u : View). u.held) home ∙ ap (λ (l : List Held). held_before l) (ap (λ (u : View). u.held) takes)

    got_home : GotAtOnce (IsOfWrite s a) v y
    got_home = once_home (IsOfWrite s a) v x (got_conf v x c takes) y home

    -- and all was tried from there
    pub registers_then : (z : View) (r : Result Hand Busy)
        → MatchResult r (λ h. HasRegisters s a y h z) (λ b. FoundTaken (IsOfWrite s a) y b z)
        → MatchResult r (λ h. HasRegisters s a v h z) (λ b. FoundTaken (IsOfWrite s a) v b z)
    registers_then z (Ok h) has = record {
      took = once_then (IsOfWrite s a) v y got_home z has.took;
      held = has.held;
      memory = has.memory;
      stood = has.stood;
      none = has.none;
      hand = has.hand;
    }
    registers_then z (Err b) found = taken_then (IsOfWrite s a) v y got_home home_held b z found

  -- ---- and what is pending, where they say so

  module _ (v w : View) (h : Hand) (has : HasRegisters s a v h w) where
    abbrev c : ConfState
    c = conf_state h.conf.value

    abbrev m : Option (List Window × Option Tracked)
    m = memory_state h.memory

    registers_held : w.held ≡ out (part.Conf a.vcpu) (Conf c) ∷ memory_before m []
    registers_held = has.held ∙ ap (λ o. pend_before a.vcpu (pend_of_hand o) (out (part.Conf a.vcpu) (Conf c) ∷ memory_before m [])) has.none

    memory_there : (o : Option (Box GuestMemory Global)) → is_some o ≡ true → is_some (memory_state o) ≡ true
    memory_there None is = cc
    memory_there (Some b) is = refl

    pub memory_enough : reads_tables (asked a c) ≡ true → is_some m ≡ true
    memory_enough reads = memory_there h.memory (has.memory reads)

    pub got_pend : (x : View) (p : PendState) → changes_pending (asked a c) ≡ true → x ≡ took w (part.Pend a.vcpu) (Pend p) → GotAtOnce (IsOfWrite s a) v x
    got_pend x p asks takes = once_took (IsOfWrite s a) v w has.took x (part.Pend a.vcpu) (Pend p)
        (inr (inr (refl, record { conf = c; stood = has.stood; asks = asks }))) takes

    pub pend_held : (x : View) (p : PendState) → x ≡ took w (part.Pend a.vcpu) (Pend p)
        → x.held ≡ held_of a.vcpu (record { memory = m; conf = c; pend = Some p })
    pend_held x p takes = ap (λ (u : View). u.held) takes ∙ ap (λ (l : List Held). out (part.Pend a.vcpu) (Pend p) ∷ l) registers_held

    -- it is another pass's, and all went home
    pub pend_busy : (x z : View) (b : Busy) → changes_pending (asked a c) ≡ true → v.held ≡ [] → IsBusy w (part.Pend a.vcpu) b x → z ≡ holding x []
        → FoundTaken (IsOfWrite s a) v b z
    pend_busy x z b asks bare busy home = once_busy (IsOfWrite s a) v w has.took x (part.Pend a.vcpu) b
        (inr (inr (refl, record { conf = c; stood = has.stood; asks = asks }))) busy z [] home (sym bare)
