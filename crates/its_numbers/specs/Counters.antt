-- How often signals went where, and commands were refused for which reason.
use Rattle.std.specs.Prelude.{ℕ, ◌+◌, ◌==◌, if◌then◌else◌}
use Rattle.its_plain.specs.declared.call.Cause.TheVariants as causes
use Rattle.its_plain.specs.declared.call.Reason.{Reason}
use Rattle.its_plain.specs.declared.call.Reason.TheVariants as reasons
use Rattle.its_plain.specs.declared.call.Reply.{Reply}
use Rattle.its_plain.specs.declared.call.Reply.TheVariants as replies
use Rattle.its_plain.specs.declared.call.Signal.{Signal}
use Rattle.its_plain.specs.declared.call.Signal.TheVariants.{Delivered, Dropped}
use Rattle.its_plain.specs.declared.call.StepReply.{StepReply}
use Rattle.its_plain.specs.declared.call.StepReply.TheVariants as steps
use Rattle.its_numbers.specs.Limits.{no_limit}
use Rattle.its_numbers.specs.declared.counters.Counters.{Counters}
use Rattle.its_numbers.specs.declared.counters.RefusedCounts.{RefusedCounts}
use Rattle.its_numbers.specs.declared.counters.SignalCounts.{SignalCounts}

-- before the first call
abbrev pub none_counted : Counters
none_counted = record {
  signals = record { delivered = 0; disabled = 0; no_device = 0; no_event = 0; no_collection = 0; lpis_off = 0 };
  refused = record {
    unknown_command = 0;
    device_range = 0;
    size_range = 0;
    target_range = 0;
    collection_range = 0;
    no_device = 0;
    event_range = 0;
    intid_range = 0;
    no_event = 0;
    no_collection = 0;
    lpis_off = 0;
  };
}

-- one more; the greatest count stays
abbrev pub one_more : ℕ → ℕ
one_more n = if n == no_limit then n else (n + 1)

-- ---- signals

abbrev pub counted_signal : Signal → SignalCounts → SignalCounts
counted_signal (Delivered vcpu intid) c = record c { delivered = one_more c.delivered }
counted_signal (Dropped causes.Disabled) c = record c { disabled = one_more c.disabled }
counted_signal (Dropped causes.NoDevice) c = record c { no_device = one_more c.no_device }
counted_signal (Dropped causes.NoEvent) c = record c { no_event = one_more c.no_event }
counted_signal (Dropped causes.NoCollection) c = record c { no_collection = one_more c.no_collection }
counted_signal (Dropped causes.LpisOff) c = record c { lpis_off = one_more c.lpis_off }

abbrev pub count_signal : Signal → Counters → Counters
count_signal signal c = record c { signals = counted_signal signal c.signals }

-- ---- refused commands

abbrev pub counted_reason : Reason → RefusedCounts → RefusedCounts
counted_reason reasons.UnknownCommand c = record c { unknown_command = one_more c.unknown_command }
counted_reason reasons.DeviceRange c = record c { device_range = one_more c.device_range }
counted_reason reasons.SizeRange c = record c { size_range = one_more c.size_range }
counted_reason reasons.TargetRange c = record c { target_range = one_more c.target_range }
counted_reason reasons.CollectionRange c = record c { collection_range = one_more c.collection_range }
counted_reason reasons.NoDevice c = record c { no_device = one_more c.no_device }
counted_reason reasons.EventRange c = record c { event_range = one_more c.event_range }
counted_reason reasons.IntidRange c = record c { intid_range = one_more c.intid_range }
counted_reason reasons.NoEvent c = record c { no_event = one_more c.no_event }
counted_reason reasons.NoCollection c = record c { no_collection = one_more c.no_collection }
counted_reason reasons.LpisOff c = record c { lpis_off = one_more c.lpis_off }

abbrev pub count_step : StepReply → Counters → Counters
count_step steps.Idle c = c
count_step (steps.Ran op) c = c
count_step (steps.Refused op reason) c = record c { refused = counted_reason reason c.refused }
count_step (steps.QueueFault at) c = c

-- ---- any call, by its reply

abbrev pub count_reply : Reply → Counters → Counters
count_reply (replies.Signal signal) c = count_signal signal c
count_reply (replies.Step step) c = count_step step c
count_reply other c = c
