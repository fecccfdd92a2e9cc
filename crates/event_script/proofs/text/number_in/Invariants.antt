use Rattle.std.proofs.Common.{◌≡◌, ◌<◌, ◌^◌, true, take, nat_lt}
use Rattle.std.specs.List.{list_all}
use Rattle.std.specs.Char.{digit_value}
use Rattle.std.specs.Str.Parse.{digits_value}
use Rattle.event_script.proofs.text.number_in.Given as goal

abbrev pub invariant-loop-c : goal.invariant-loop-c
invariant-loop-c l = record {
  digits : list_all (λ c. nat_lt (digit_value c) l.base) (take l.c-index l.digits) ≡ true;
  fits : l.value < 2 ^ 64;
  value : l.value ≡ digits_value l.base (take l.c-index l.digits);
}
