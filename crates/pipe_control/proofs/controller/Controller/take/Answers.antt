use Rattle.std.proofs.Common.{ℕ, nat_lt, length, sym, ap, ◌∙◌}
use Rattle.pipe_base.specs.declared.control.Control.{Control}
use Rattle.pipe_control.specs.Known.{count_of, counts_with}
use Rattle.pipe_control.proofs.CountLaws.{done_known, gone_known}
use Rattle.pipe_control.proofs.KnownLaws.{report_known}
use Rattle.pipe_model.specs.View.{after_message, with_done, with_gone, with_report}
use Rattle.pipe_topo.specs.Sets.{has}
use Rattle.pipe_control.proofs.controller.Controller.take.Goals as goal

pub returns-in-Down : goal.returns-in-Down
returns-in-Down c = λ graph v stands. record {
  fits = record {
    sized = record {
      live = stands.fits.sized.live;
      reports = c.note_report.ensures.size ∙ stands.fits.sized.reports;
      done = stands.fits.sized.done;
    };
    all = stands.fits.all;
    gone = stands.fits.gone;
  };
  known =
      report_known c.args.self.now c.note_report.new.reports c.in-Down.link c.in-Down.value c.note_report.ensures.value
      ∙ ap (with_report c.in-Down.link c.in-Down.value) stands.known
      ∙ sym (ap (λ (m : Control). after_message graph m v) c.in-Down.is);
}

pub returns-in-Done : goal.returns-in-Done
returns-in-Done c = λ graph v stands. record {
  fits = record {
    sized = record {
      live = stands.fits.sized.live;
      reports = stands.fits.sized.reports;
      done = c.note_done.ensures.size ∙ stands.fits.sized.done;
    };
    all = stands.fits.all;
    gone = stands.fits.gone;
  };
  known =
      done_known c.args.self.now c.note_done.new.done c.in-Done.host c.in-Done.count
      (c.note_done.ensures.value
      ∙ ap (λ (most : ℕ). counts_with (has c.args.self.now.members c.in-Done.host.0) most c.in-Done.host.0 c.in-Done.count (count_of c.args.self.now.done)) c.len.ensures)
      ∙ ap (with_done c.in-Done.host c.in-Done.count) stands.known
      ∙ sym (ap (λ (m : Control). after_message graph m v) c.in-Done.is);
}

pub returns-in-Gone : goal.returns-in-Gone
returns-in-Gone c = λ graph v stands. record {
  fits = record {
    sized = record {
      live = stands.fits.sized.live;
      reports = stands.fits.sized.reports;
      done = stands.fits.sized.done;
    };
    all = stands.fits.all;
    gone = c.note_gone.ensures.size ∙ stands.fits.gone;
  };
  known =
      gone_known graph c.args.self.now c.note_gone.new.gone c.in-Gone.node c.in-Gone.count stands.fits.gone
      (c.note_gone.ensures.value
      ∙ ap (λ (most : ℕ). counts_with (nat_lt c.in-Gone.node.0 (length c.args.self.now.gone)) most c.in-Gone.node.0 c.in-Gone.count (count_of c.args.self.now.gone)) c.len-in-Gone.ensures)
      ∙ ap (with_gone graph c.in-Gone.node c.in-Gone.count) stands.known
      ∙ sym (ap (λ (m : Control). after_message graph m v) c.in-Gone.is);
}
