use Rattle.mk_build.proofs.PieceSplits.{b64_split, plain_split, qp_split}
use Rattle.mk_build.proofs.pieces.split.Goals as goal

pub returns-in-Qp-clause-parts : goal.returns-in-Qp-clause-parts
returns-in-Qp-clause-parts c = qp_split c.args.body.now.coding c.args.eol c.args.body.now.bytes.now c.split_at_ending.result c.in-Qp.is c.requires c.split_at_ending.ensures.parts

pub returns-in-Base64-clause-parts : goal.returns-in-Base64-clause-parts
returns-in-Base64-clause-parts c = b64_split c.args.body.now.coding c.args.eol c.args.body.now.bytes.now c.split_block.result c.in-Base64.is c.split_block.ensures.parts c.split_block.ensures.size c.split_block.ensures.more

pub returns-in-Plain-clause-parts : goal.returns-in-Plain-clause-parts
returns-in-Plain-clause-parts c = plain_split c.args.body.now.coding c.args.eol c.args.body.now.bytes.now c.split_block-in-Plain.result c.in-Plain.is c.split_block-in-Plain.ensures.parts
