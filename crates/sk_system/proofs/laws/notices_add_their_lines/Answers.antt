use Rattle.sk_system.proofs.NoticeLines.{monitor_kept, monitor_more, monitor_next, controller_kept, controller_more, controller_next}
use Rattle.sk_system.proofs.laws.notices_add_their_lines.Goals as goal

pub returns : goal.returns
returns c = record {
  monitor = monitor_next;
  monitor_more = monitor_more;
  monitor_kept = monitor_kept;
  controller = controller_next;
  controller_more = controller_more;
  controller_kept = controller_kept;
}
