pub mod HeadLaws
pub mod TourLaws
