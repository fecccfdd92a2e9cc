-- The machine of a script, for threads to share.
use Rattle.std.proofs.Common.{rules, arith, ◌≡◌, ◌^◌, ◌<◌, ◌≤◌, length}
use Rattle.event_script.specs.Limits.{IsWithinLimits}
use Rattle.event_script.specs.declared.script.Script.{Script}
use Rattle.its_migrate.specs.Shared.{IsFirst}
use Rattle.its_turns.specs.declared.machine.Machine.{Machine}
use Rattle.its_turns.specs.declared.machine.Pass.{Pass}
use Rattle.its_turns.specs.Words.{IsLong}
use Rattle.its_top.specs.Played.{IsReady}

-- it is ready for the script
pub is_ready : (script : Script) (m : Machine) (r : Pass) → IsWithinLimits script → IsFirst script.desc m r
    → IsReady script (record { machine = m; root = r })
is_ready script m r within first = record {
  within = within;
  fresh = record { of = first.of; view = first.view };
  limits = first.limits;
  desc = record { base = first.start.base; made_is = first.start.made_is; kept = first.desc };
}

-- ---- what a machine wants of its description

module _ (script : Script) (within : IsWithinLimits script) where
  pub some_shards : 1 ≤ script.desc.shards
  some_shards = search rules

  pub most_shards : script.desc.shards ≤ 64
  most_shards = search rules

  pub stamps : script.desc.limits.stamp_last < 2 ^ 24
  stamps = search rules

  pub stamps_of_two : length script.desc.translators ≡ 2 → script.desc.limits.stamp_last < 4096
  stamps_of_two = search rules

  short : script.desc.limits.place_last < 2 ^ 40
  short = search rules

  pub places : script.desc.limits.place_last < 2 ^ 56
  places = omega (arith, short)

  -- a script's places have 40 bits
  pub few_stamps : IsLong script.desc.limits → script.desc.limits.stamp_last < 2 ^ 8
  few_stamps long = absurd (omega (arith, short, long))

  pub alone : IsLong script.desc.limits → length script.desc.translators ≡ 1
  alone long = absurd (omega (arith, short, long))
