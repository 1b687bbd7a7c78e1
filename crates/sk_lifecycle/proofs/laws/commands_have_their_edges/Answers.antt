use Rattle.sk_lifecycle.proofs.CourseLaws.{has_edge_of-words}
use Rattle.sk_lifecycle.proofs.laws.commands_have_their_edges.Goals as goal

pub returns : goal.returns
returns c = has_edge_of-words
