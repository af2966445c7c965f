use Rattle.std.proofs.Common.{◌++◌, ap, ◌∙◌}
use Rattle.std.specs.List.{repeat}
use Rattle.large_texts.specs.Texts.{library_method, handler, largest_text}
use Rattle.large_texts.proofs.largest.Goals as goal

pub returns : goal.returns
unfolding largest_text
returns c =
    let own = c.in_ok-add_lines.ensures ∙ ap (λ t. t ++ repeat 16 handler) c.in_ok-method.ensures in
    let library = c.in_ok-add_lines-2.ensures ∙ ap (λ t. t ++ repeat 32 library_method) c.new-text.ensures.items in
    c.in_ok-add_lines-3.ensures ∙ ap (λ t. t ++ repeat 16 c.as_slice.result.now) library ∙ ap (λ t. repeat 32 library_method ++ repeat 16 t) (c.as_slice.ensures.value ∙ own)
