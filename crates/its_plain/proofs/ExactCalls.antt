-- Comparisons of calls, and of calls with their replies, tell equal values from others.
use Rattle.std.proofs.Common.{Bool, true, false, ◌&&◌, ◌==◌}
use denote.Enum.Compared.{Each, by}
use Rattle.its_plain.specs.declared.call.Call.{Call}
use Rattle.its_plain.specs.contracts.call.Call as call_type
use Rattle.its_plain.specs.declared.call.Route.{Route}
use Rattle.its_plain.specs.contracts.call.Route as route_type
use Rattle.its_plain.proofs.Exact.{Exact, by_exact, none, one, on_rest, exact_number}
use Rattle.its_plain.proofs.ExactReplies.{exact_addr, exact_deviceid, exact_eventid, exact_vcpu, exact_intid, same_bytes, exact_bytes}

abbrev each_route : Each Bool route_type.enum.parts
each_route = (λ x y. x.0 == y.0 && (x.1.0.0 == y.1.0.0 && (x.1.1.0.0 == y.1.1.0.0)), (λ x y. true, (λ x y. true, (λ x y. true, tt))))

abbrev same_route : Route → Route → Bool
same_route x y = by false false route_type.enum.parts each_route (route_type.enum.as_values x) (route_type.enum.as_values y)

exact_route : Exact same_route
exact_route = by_exact route_type.enum each_route (on_rest exact_number (on_rest exact_deviceid (one exact_eventid)), (none, (none, (none, tt))))

abbrev each_call : Each Bool call_type.enum.parts
each_call = (
  λ x y. x.0 == y.0 && (x.1.0.0 == y.1.0.0 && (x.1.1.0.0 == y.1.1.0.0)),
  (
    λ x y. x.0.0 == y.0.0,
    (
      λ x y. x.0.0 == y.0.0,
      (
        λ x y. x.0.0 == y.0.0 && (x.1.0 == y.1.0),
        (
          λ x y. x.0.0 == y.0.0 && (x.1.0.0 == y.1.0.0),
          (
            λ x y. x.0.0 == y.0.0 && (same_bytes x.1.0 y.1.0),
            (
              λ x y. x.0.0 == y.0.0 && (x.1.0 == y.1.0),
              (
                λ x y. x.0 == y.0 && (x.1.0 == y.1.0 && (x.1.1.0 == y.1.1.0)),
                (
                  λ x y. x.0 == y.0 && (x.1.0 == y.1.0 && (x.1.1.0 == y.1.1.0 && (x.1.1.1.0 == y.1.1.1.0))),
                  (
                    λ x y. x.0.0 == y.0.0 && (x.1.0 == y.1.0 && (x.1.1.0 == y.1.1.0)),
                    (
                      λ x y. x.0.0 == y.0.0 && (x.1.0 == y.1.0 && (x.1.1.0 == y.1.1.0 && (x.1.1.1.0 == y.1.1.1.0))),
                      (
                        λ x y. x.0 == y.0,
                        (
                          λ x y. true,
                          (
                            λ x y. true,
                            (λ x y. x.0 == y.0 && (x.1.0.0 == y.1.0.0 && (same_bytes x.1.1.0 y.1.1.0 && (same_route x.1.1.1.0 y.1.1.1.0))), tt),
                          ),
                        ),
                      ),
                    ),
                  ),
                ),
              ),
            ),
          ),
        ),
      ),
    ),
  ),
)

abbrev pub same_call : Call → Call → Bool
same_call x y = by false false call_type.enum.parts each_call (call_type.enum.as_values x) (call_type.enum.as_values y)

pub exact_call : Exact same_call
exact_call = by_exact call_type.enum each_call (
  on_rest exact_number (on_rest exact_deviceid (one exact_eventid)),
  (
    one exact_vcpu,
    (
      one exact_vcpu,
      (
        on_rest exact_vcpu (one exact_number),
        (
          on_rest exact_vcpu (one exact_intid),
          (
            on_rest exact_addr (one exact_bytes),
            (
              on_rest exact_addr (one exact_number),
              (
                on_rest exact_number (on_rest exact_number (one exact_number)),
                (
                  on_rest exact_number (on_rest exact_number (on_rest exact_number (one exact_number))),
                  (
                    on_rest exact_vcpu (on_rest exact_number (one exact_number)),
                    (
                      on_rest exact_vcpu (on_rest exact_number (on_rest exact_number (one exact_number))),
                      (
                        one exact_number,
                        (
                          none,
                          (
                            none,
                            (on_rest exact_number (on_rest exact_addr (on_rest exact_bytes (one exact_route))), tt),
                          ),
                        ),
                      ),
                    ),
                  ),
                ),
              ),
            ),
          ),
        ),
      ),
    ),
  ),
)
