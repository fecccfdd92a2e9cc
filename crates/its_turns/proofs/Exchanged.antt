-- What a pass has in hand after a commit.
use Rattle.std.proofs.Common.{◌≡◌, ℕ, ◌*◌, List, [], ◌∷◌, refl, ap, ◌∙◌}
use mathlib.Core.Option.{none}
use mathlib.Core.Logic.{dite}
use native.Mathlib.Decide.{ℕ_discrete}
use Rattle.atomic_table.specs.Table.{Me, step}
use Rattle.its_plain.specs.Answer.{left}
use Rattle.its_plain.specs.Plain.{Plain}
use Rattle.its_steps.specs.Parts.{Setup, index_of}
use Rattle.its_steps.specs.Renewal.{assembled, renewed}
use Rattle.its_steps.specs.World.{View}
use Rattle.its_steps.specs.Contents.{Held}
use Rattle.its_turns.specs.Contents.{emptied}
use Rattle.its_turns.specs.Told.{committing}
use Rattle.its_steps.specs.declared.commit.Commit.{Commit}
use Rattle.its_turns.specs.declared.value.Value.{Value}
use Rattle.its_turns.specs.declared.value.Value.TheVariants.{Vacant}

pub record IsSamePass (v v' : View) : Type 0 where
  pub standing : v'.standing ≡ v.standing
  pub number : v'.number ≡ v.number
  pub root : v'.root ≡ v.root
  pub setup : v'.setup ≡ v.setup
  pub slots : (s : Setup) → emptied s v'.held ≡ emptied s v.held

emptied_renewed : (s t : Setup) (a : Commit) (u : Plain) (held : List Held) → emptied s (renewed t a u held) ≡ emptied s held
emptied_renewed s t a u [] = refl
emptied_renewed s t a u (x ∷ xs) = ap (λ (l : List (ℕ × Value)). (8 * index_of s x.part, Vacant) ∷ l) (emptied_renewed s t a u xs)

pub same_pass : (a : Commit) (slots first second n : ℕ) (m m' : Me Value View) → committing a (step slots 0 first second none) m n m' → IsSamePass m.0 m'.0
same_pass a slots first second n m m' e = dite (ℕ_discrete n first)
    (λ hit. let is = (e.1 hit).view in record {
      standing = ap (λ (v : View). v.standing) is;
      number = ap (λ (v : View). v.number) is;
      root = ap (λ (v : View). v.root) is;
      setup = ap (λ (v : View). v.setup) is;
      slots = λ s. ap (λ (v : View). emptied s v.held) is ∙ emptied_renewed s m.0.setup a (left (assembled m.0.setup m.0.held) a.call a.reply) m.0.held;
    })
    (λ ne. let is = (e.2 ne).looks.same in record {
      standing = ap (λ (v : View). v.standing) is;
      number = ap (λ (v : View). v.number) is;
      root = ap (λ (v : View). v.root) is;
      setup = ap (λ (v : View). v.setup) is;
      slots = λ s. ap (λ (v : View). emptied s v.held) is;
    })
