-- The word stands behind the text.
use borrow.Author.Rules.{rules}
use native.Mathlib.Omega.{arith}
use Rattle.text_lines.proofs.Laws.{copied}
use Rattle.text_lines.proofs.Text.put_word.Goals as goal

pub returns : goal.returns
returns c =
    let t = c.args.self.now in
    let w = c.args.word.now in
    record {
      place = search rules;
      bytes = copied t.out.now t.len _ w _ (omega arith) (omega arith) c.copy_from_slice.ensures.after;
      size = search rules;
      same = search rules;
    }
