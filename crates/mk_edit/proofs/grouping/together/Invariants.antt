use Rattle.std.proofs.Common.{◌≡◌, ◌≤◌, length, map, drop, vec_len, vec_capacity}
use Rattle.mk_tree.specs.Documents.{tree}
use Rattle.mk_edit.specs.Drafts.{text_in}
use Rattle.mk_edit.specs.Groups.{following, together}
use Rattle.mk_splice.specs.Splices.{forth_step, GoesForth}
use Rattle.mk_decide.specs.Views.{edit_of}
use Rattle.mk_splice.specs.Views.{splice_of}
use Rattle.mk_edit.proofs.grouping.together.Given as goal

abbrev pub invariant-loop-edit : goal.invariant-loop-edit
invariant-loop-edit l = record {
  told : following l.edit-index (map splice_of l.splices.items) (together (map edit_of (drop l.edit-index l.list)) (tree (text_in l.draft))) ≡ together (map edit_of l.list) (tree l.doc);
  goes : GoesForth (map splice_of l.splices.items) l.doc;
  text : text_in l.draft ≡ forth_step (map splice_of l.splices.items) l.doc;
  size : vec_len l.splices ≡ l.edit-index;
  room : length l.list ≤ vec_capacity l.splices;
}
