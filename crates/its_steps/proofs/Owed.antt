-- What is owed before and after a commit.
use Rattle.std.proofs.Common.{◌≡◌, ℕ, List, [], ◌∷◌, refl, sym, ◌∙◌, subst, inl, inr, ⊎_elim}
use Rattle.std.specs.List.{AllByRecursion}
use Rattle.its_types.specs.declared.machine.Part.{Part}
use Rattle.its_types.specs.declared.machine.Word.{Word}
use Rattle.its_plain.specs.Plain.{Plain}
use Rattle.its_steps.specs.Parts.{Setup, Stands, Right}
use Rattle.its_steps.specs.Contents.{Content, Held}
use Rattle.its_steps.specs.Good.{Holds, Apart}
use Rattle.its_steps.specs.MayCommit.{IsRight, IsOut, AreSameParts}
use Rattle.its_steps.specs.MayCall.{Owes, IsSteady, AreSteady}
use Rattle.its_steps.specs.Renewal.{content_in, renewed}
use Rattle.its_steps.specs.World.{word_after}
use Rattle.its_steps.specs.declared.commit.Commit.{Commit}

pub owes_holds : (p : Part) (c : Content) (held : List Held) → Owes p c held → Holds p held
owes_holds p c [] o = absurd o
owes_holds p c (x ∷ xs) o = ⊎_elim (λ (e : (x.part ≡ p) × (x.owed ≡ c)). inl e.0) (λ (t : Owes p c xs). inr (owes_holds p c xs t)) o

-- a part owes one content
pub owes_once : (p : Part) (c d : Content) (held : List Held) → Apart held → Owes p c held → Owes p d held → c ≡ d
owes_once p c d [] apart a b = absurd a
owes_once p c d (x ∷ xs) apart a b = ⊎_elim
    (λ (e : (x.part ≡ p) × (x.owed ≡ c)). ⊎_elim
    (λ (f : (x.part ≡ p) × (x.owed ≡ d)). sym e.1 ∙ f.1)
    (λ (t : Owes p d xs). absurd (apart.0 (subst (λ (q : Part). Holds q xs) (sym e.0) (owes_holds p d xs t)))) b)
    (λ (s : Owes p c xs). ⊎_elim
    (λ (f : (x.part ≡ p) × (x.owed ≡ d)). absurd (apart.0 (subst (λ (q : Part). Holds q xs) (sym f.0) (owes_holds p c xs s))))
    (λ (t : Owes p d xs). owes_once p c d xs apart.1 s t) b) a

-- what holds of each part and what it owes
pub owes_all : (T : Part → Content → Type 0) (p : Part) (c : Content) (held : List Held) → Owes p c held → AllByRecursion (λ x. T x.part x.owed) held → T p c
owes_all T p c [] o all = absurd o
owes_all T p c (x ∷ xs) o all = ⊎_elim
    (λ (e : (x.part ≡ p) × (x.owed ≡ c)). subst (λ (q : Part). T q c) e.0 (subst (T x.part) e.1 all.0)) (λ (t : Owes p c xs). owes_all T p c xs t all.1) o

module _ (s : Setup) (a : Commit) (after : Plain) where
  pub same_renewed : (held : List Held) → AllByRecursion IsOut held → AreSameParts held (renewed s a after held)
  same_renewed [] out = tt
  same_renewed (x ∷ xs) out = (refl, out.0, same_renewed xs out.1)

  pub owes_renewed : (p : Part) (d : Content) (held : List Held) → Owes p d held → Owes p (content_in s a after p d) (renewed s a after held)
  owes_renewed p d [] o = absurd o
  owes_renewed p d (x ∷ xs) o = ⊎_elim
      (λ (e : (x.part ≡ p) × (x.owed ≡ d)). inl (e.0, (λ i. content_in s a after (e.0 i) (e.1 i))))
      (λ (t : Owes p d xs). inr (owes_renewed p d xs t)) o

  pub all_renewed : (word : Word) (u u' : Plain) (held : List Held) → ((p : Part) (d : Content) → Stands s p → Owes p d held → Right s word u p d
      → Right s (word_after a) u' p (content_in s a after p d))
      → AllByRecursion (λ x. Stands s x.part) held → AllByRecursion (IsRight s word u) held → AllByRecursion (IsRight s (word_after a) u')
      (renewed s a after held)
  all_renewed word u u' [] f st right = tt
  all_renewed word u u' (x ∷ xs) f st right = (
    f x.part x.owed st.0 (inl (refl, refl)) right.0,
    all_renewed word u u' xs (λ p d t o. f p d t (inr o)) st.1
        right.1,
  )

  -- of a part held, what was owed is right, and steadily renewed
  pub steady_at : (word : Word) (u : Plain) (its : ℕ) (owed held : List Held) → AreSteady s its owed held (renewed s a after held)
      → AllByRecursion (IsRight s word u) held → (p : Part) → Holds p held
      → (d : Content) × Right s word u p d × IsSteady s its owed p d (content_in s a after p d)
  steady_at word u its owed [] steady right p h = absurd h
  steady_at word u its owed (x ∷ xs) steady right p h = ⊎_elim
      (λ (e : x.part ≡ p). subst (λ (q : Part). (d : Content) × Right s word u q d × IsSteady s its owed q d (content_in s a after q d)) e
      (x.owed, right.0, steady.0))
      (λ (t : Holds p xs). steady_at word u its owed xs steady.1 right.1 p t) h
