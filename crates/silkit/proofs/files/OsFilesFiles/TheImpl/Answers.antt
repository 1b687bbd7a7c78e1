-- Files of the host tell nothing, so the clauses of their trait on what is told hold of themselves.
use Rattle.std.proofs.Common.{refl}
use Rattle.silkit.proofs.files.OsFilesFiles.TheImpl.Goals as goal

pub read-tells : goal.read-tells
read-tells g c = record {
  ready = c.ensures.ready;
  within = c.ensures.within;
  rose = c.ensures.rose;
  steady = c.ensures.steady;
  tells = refl;
  contents = λ path. refl;
  current = refl;
  told = λ e. absurd cc;
}
