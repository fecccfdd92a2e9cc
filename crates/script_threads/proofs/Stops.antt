-- Which stop a phase tells.
use Rattle.std.proofs.Common.{◌≡◌, ◌⊎◌, List, [], ◌∷◌, ◌++◌, Option, Some, None, refl, sym, inl, inr, ⊎_elim, true≢false}
use Rattle.std.specs.Prelude.{IsSome}
use Rattle.std.specs.List.{AllByRecursion}
use Rattle.script_threads.specs.declared.job.Job.{Job}
use Rattle.script_threads.specs.declared.stop.Stop.{Stop}
use Rattle.script_threads.specs.declared.stop.Stop.TheVariants.{Spent, NoMemory}
use Rattle.script_threads.specs.Jobs.{worse, worst_from}

abbrev pub SomeStopped : Stop → List Job → Type 0
SomeStopped s [] = ⊥
SomeStopped s (k ∷ ks) = (k.stop ≡ Some s) ⊎ SomeStopped s ks

abbrev pub SomeStop : List Job → Type 0
SomeStop [] = ⊥
SomeStop (k ∷ ks) = IsSome k.stop ⊎ SomeStop ks

abbrev pub NeverStopped : Job → Type 0
NeverStopped k = k.stop ≡ None

worse_is : (a b : Option Stop) (s : Stop) → worse a b ≡ Some s → (a ≡ Some s) ⊎ (b ≡ Some s)
worse_is (Some NoMemory) b s e = inl e
worse_is (Some Spent) None s e = inl e
worse_is (Some Spent) (Some z) s e = inr e
worse_is None None s e = inl e
worse_is None (Some z) s e = inr e

worse_none : (a b : Option Stop) → worse a b ≡ None → (a ≡ None) × (b ≡ None)
worse_none (Some NoMemory) b e = absurd (cc e)
worse_none (Some Spent) None e = absurd (cc e)
worse_none (Some Spent) (Some z) e = absurd (cc e)
worse_none None None e = (refl, refl)
worse_none None (Some z) e = absurd (cc e)

pub worst_is : (first : Option Stop) (ks : List Job) (s : Stop) → worst_from first ks ≡ Some s → (first ≡ Some s) ⊎ SomeStopped s ks
worst_is first [] s e = inl e
worst_is first (k ∷ ks) s e = ⊎_elim
    (λ (t : worse first k.stop ≡ Some s). ⊎_elim (λ (a : first ≡ Some s). inl a) (λ (b : k.stop ≡ Some s). inr (inl b)) (worse_is first k.stop s t))
    (λ (t : SomeStopped s ks). inr (inr t)) (worst_is (worse first k.stop) ks s e)

worst_none : (first : Option Stop) (ks : List Job) → worst_from first ks ≡ None → (first ≡ None) × AllByRecursion NeverStopped ks
worst_none first [] e = (e, tt)
worst_none first (k ∷ ks) e =
    let rest = worst_none (worse first k.stop) ks e in
    let both = worse_none first k.stop rest.0 in (both.0, (both.1, rest.1))

pub never_stopped : (ks : List Job) → worst_from None ks ≡ None → AllByRecursion NeverStopped ks
never_stopped ks e = (worst_none None ks e).1

pub some_stopped : (ks : List Job) (s : Stop) → worst_from None ks ≡ Some s → SomeStopped s ks
some_stopped ks s e = ⊎_elim (λ (t : None ≡ Some s). absurd (cc t)) (λ (t : SomeStopped s ks). t) (worst_is None ks s e)

pub worst_snoc : (first : Option Stop) (ks : List Job) (k : Job) → worst_from first (ks ++ k ∷ []) ≡ worse (worst_from first ks) k.stop
worst_snoc first [] k = refl
worst_snoc first (x ∷ ks) k = worst_snoc (worse first x.stop) ks k

worse_some : (a b : Option Stop) → IsSome (worse a b) → IsSome a ⊎ IsSome b
worse_some (Some NoMemory) b e = inl refl
worse_some (Some Spent) None e = inl refl
worse_some (Some Spent) (Some z) e = inl refl
worse_some None None e = inl e
worse_some None (Some z) e = inr refl

worst_some : (first : Option Stop) (ks : List Job) → IsSome (worst_from first ks) → IsSome first ⊎ SomeStop ks
worst_some first [] e = inl e
worst_some first (k ∷ ks) e = ⊎_elim
    (λ (t : IsSome (worse first k.stop)). ⊎_elim (λ (a : IsSome first). inl a) (λ (b : IsSome k.stop). inr (inl b)) (worse_some first k.stop t))
    (λ (t : SomeStop ks). inr (inr t)) (worst_some (worse first k.stop) ks e)

abbrev no_stop : Option Stop
no_stop = None

pub some_stop : (ks : List Job) → IsSome (worst_from None ks) → SomeStop ks
some_stop ks e = ⊎_elim (λ (t : IsSome no_stop). absurd (true≢false (sym t))) (λ (t : SomeStop ks). t) (worst_some None ks e)
