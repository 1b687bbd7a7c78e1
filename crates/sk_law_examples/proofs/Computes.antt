-- A proof that names this on its `unfolding` line sees through all definitions that a journal is computed by.
use Rattle.sk_msg.specs.States.{is_state, has_reached}
use Rattle.sk_msg.specs.Edges.{has_edge, led_to}
use Rattle.sk_msg.specs.Rules.{is_can_frame, is_lin_id, is_lin_payload}
use Rattle.sk_system.specs.System.{some_is, some_reached, all_reached as all_have, system_of}
use Rattle.sk_eth.specs.Ethernet.{is_sendable, padded}
use Rattle.sk_lin.specs.Lin.{admits_lin, header_frame, is_lin_response, is_sleep_frame, received_lin}
use Rattle.sk_msg.specs.Matching.{match_services, match_specs}
use Rattle.sk_law.specs.Order.{may_say}
use Rattle.sk_law.specs.Links.{is_awaited, is_in_order, system, all_reached, limit}
use Rattle.sk_law.specs.Receivers.{receivers}
use Rattle.sk_law.specs.Outcomes.{outcome_at}
use Rattle.sk_law.specs.Outbox.{are_filled}
use Rattle.sk_law.specs.Rows.{row, may_begin}
use Rattle.sk_law.specs.Blocks.{add_tool, answer, ask, callback, complete, completes_ready, completes_step, count_down, end_step, enter_if, enter_until, get, heed, judge_limits, judge_system, lose, making, pause_for, take_step}

unfoldable pub computes : Type 0
unfolding is_state has_reached has_edge led_to is_can_frame is_lin_id is_lin_payload some_is some_reached all_have system_of is_sendable padded admits_lin header_frame is_lin_response is_sleep_frame received_lin match_services match_specs may_say are_filled is_awaited is_in_order system all_reached limit receivers outcome_at row may_begin add_tool answer ask callback complete completes_ready completes_step count_down end_step enter_if enter_until get heed judge_limits judge_system lose making pause_for take_step
computes = Unit {0}
