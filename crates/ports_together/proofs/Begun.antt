-- What is known of a machine that was just made of a small description.
use Rattle.std.proofs.Common.{Result, Ok, Err, ap, ◌∙◌}
use Rattle.std.specs.Prelude.{IfOk}
use Rattle.its_plain.specs.declared.desc.Desc.{Desc}
use Rattle.its_plain.specs.declared.layout.Layout.{Layout}
use Rattle.its_plain.specs.declared.make.MakeError.{MakeError}
use Rattle.its_plain.specs.declared.make.MakeError.TheVariants as errors
use Rattle.its_turns.specs.Machines.{setup}
use Rattle.its_turns.specs.declared.machine.Machine.{Machine}
use Rattle.its_turns.specs.declared.machine.Pass.{Pass}
use Rattle.its_migrate.specs.Shared.{IsFirst, IsSharedFrom}
use Rattle.its_migrate.proofs.Fresh.{first_layout, first_count}
use Rattle.ports_together.specs.Ready.{IsSmall, IsShared}

pub if_shared : (d : Desc) (P : Machine × Pass → Type 0) (r : Result (Machine × Pass) MakeError) → IsSharedFrom d r
    → ((x : Machine × Pass) → IsFirst d x.0 x.1 → P x) → IfOk r P
if_shared d P (Ok x) h f = f x h
if_shared d P (Err (errors.Fault e)) h f = tt
if_shared d P (Err errors.NoMemory) h f = tt

pub shared : (d : Desc) → IsSmall d → (x : Machine × Pass) → IsFirst d x.0 x.1 → IsShared x.0 x.1
shared d small x h = record {
  of = h.of;
  view_is = h.view;
  translators = first_count d (setup x.0).start h.start ∙ small.single;
  vcpus = ap (λ (l : Layout). l.shape.vcpus) (first_layout d (setup x.0).start h.start) ∙ small.vcpus;
}
