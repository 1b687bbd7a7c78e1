use Rattle.sk_text.proofs.WorldLaws.{same_worlds}
use Rattle.sk_text.proofs.laws.equal_texts_have_equal_worlds.Goals as goal

pub returns : goal.returns
returns c = same_worlds c.one_spelling.ensures
