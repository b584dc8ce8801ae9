use Rattle.std.proofs.Common.{◌≡◌, ◌<◌, ℕ}
use Rattle.mk_show.specs.Folders.{IsThere}
use Rattle.mk_show.specs.Unpacking.{tried}
use Rattle.mk_show.proofs.placing.put_numbered.Given as goal

abbrev pub invariant-loop-number : goal.invariant-loop-number
invariant-loop-number g l = record {
  same : g.F.Folder.files l.dir ≡ g.F.Folder.files l.fn.dir;
  untaken : l.content ≡ l.fn.content;
  well : g.F.Folder.failures l.dir ≡ g.F.Folder.failures l.fn.dir;
  there : (n : ℕ) → n < l.number → IsThere (g.F.Folder.files l.fn.dir) (tried l.name n);
}
